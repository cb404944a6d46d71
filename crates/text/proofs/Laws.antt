-- The laws that crates above may cite.
-- Assumes nothing.
pub use Rattle.text.proofs.Pieces.{Cuts, at_tabs, at_line_feeds, joins, cut_pieces}
pub use Rattle.text.proofs.Lines.{lines_none, lines_cut, fields_cut}
pub use Rattle.text.proofs.Fields.{fields_some, one_or_tab}
pub use Rattle.text.proofs.Numbers.{digit_some, digit_none, too_short, too_long, no_digits, number_small}
pub use Rattle.text.proofs.Decimals.{decimal_one, decimal_two, decimal_three, decimal_hundreds, decimal_more, decimal_length}
pub use Rattle.text.proofs.Writing.{same_later, wrote_none, wrote_all, wrote_more, writes_none, writes_more, writes_within, pair_length}
