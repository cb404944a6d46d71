-- The laws of the picture memory that crates above may cite.
-- Assumes nothing.
pub use Rattle.picture.proofs.Bits.{digit_lt, bit_same, bit_other, bit_ext, bit_shift, bit_digit, bit_keep}
pub use Rattle.picture.proofs.Dots.{set_dot_length, dot_same, dot_other, paint_length, paint_bytes, paint_append, has_append, gathered_append, paint_further, paint_more, paint_dot, repaint_dot, picture_ext, restored, was_dark, all_ones, whole_dot}
pub use Rattle.picture.proofs.Order.{paint_swap, gathered_along, gathered_none, paint_alike, paint_back, paint_rows, gathered_columns}
pub use Rattle.picture.proofs.Screens.{dot_byte, dot_bit, power_some, in_window, row_in, row_small, same_place, fold_mask, folded_lt, place_in, place_own, place_beside, place_above, place_fits}
