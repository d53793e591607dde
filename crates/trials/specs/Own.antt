-- A limit of one's own: L ≥ 30,000, at every place, up to the longest, 2,000,000 mm.
use Rattle.std.specs.Prelude.{ℕ, Bool, nat_le}
use Rattle.std.proofs.Common.{le_trans, leb→le, le→leb}
use Rattle.limits.specs.Admission.{UpToLongest, up_to_longest}
use Rattle.limits.specs.Lawful.{capped_lawful}

abbrev pub own : ℕ → Bool
own = up_to_longest (λ length. nat_le 30_000 length)

-- A proof, that a ghost member cites: with a length every longer one is admitted. There is nothing here to believe.
pub own_lawful : UpToLongest own
own_lawful = capped_lawful (λ length. nat_le 30_000 length) (λ short long le seen. le→leb 30_000 long (le_trans (leb→le 30_000 short seen) le))
