use borrow.Author.Tests.{le-ltb, lt-leb, lt-ltb}
use Rattle.waiting.proofs.Plans.{fits_capped}
use Rattle.waiting.specs.Waiting.{fits}
use Rattle.waiting.proofs.fits.Goals as goal

pub returns-then-length-ge-WAITING : goal.returns-then-length-ge-WAITING
unfolding fits
returns-then-length-ge-WAITING c = simp (le-ltb _ _ c.if-length-ge-WAITING.true) (fits_capped _ _ c.saturating_add.ensures)

pub returns-else-length-ge-WAITING : goal.returns-else-length-ge-WAITING
unfolding fits
returns-else-length-ge-WAITING c = simp (lt-ltb _ _ c.if-length-ge-WAITING.false, lt-leb _ _ c.if-length-ge-WAITING.false)
