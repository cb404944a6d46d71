-- `panel::play::call` meets its contract: each record's call does what the definition says of its event.
-- Assumes nothing.
use Rattle.panel.proofs.Steps.{write_called, read_called, cycles_called, blanking_called, edge_called}
use Rattle.panel.proofs.play.call.Goals as goal

pub returns-in-Write : goal.returns-in-Write
returns-in-Write c = rw (c.in-Write.is, c.left.ensures) (write_called c.requires c.write.ensures)

pub returns-in-Read : goal.returns-in-Read
returns-in-Read c = rw (c.in-Read.is, c.left-in-Read.ensures) (read_called c.requires c.read.ensures)

pub returns-in-Cycles : goal.returns-in-Cycles
returns-in-Cycles c = rw (c.in-Cycles.is, c.left-in-Cycles.ensures) (cycles_called c.requires c.grant.ensures)

pub returns-in-Blanking : goal.returns-in-Blanking
returns-in-Blanking c = rw (c.in-Blanking.is, c.left-in-Blanking.ensures) (blanking_called c.requires c.set_vb.ensures)

pub returns-in-Edge : goal.returns-in-Edge
returns-in-Edge c = rw (c.in-Edge.is, c.left-in-Edge.ensures, ← c.from-in-Edge.ensures, ← c.from.ensures) (edge_called c.requires c.strike_lpck.ensures)
