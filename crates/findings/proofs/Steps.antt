-- One step more of the loops over the kinds and the rows.
use Rattle.std.proofs.Common.{◌≡◌, ℕ, ◌+◌, ◌*◌, ◌≤◌, Bool, true, false, cond, List, [], ◌∷◌, ◌++◌, map, length, drop, refl, arith}
use Rattle.std.proofs.lemmas.List.{at_drop_all, append_assoc, length-append, length-map}
use Rattle.std.specs.List.{sum_by}
use Rattle.std.proofs.lemmas.List.Sums.{sum_by-cons}
use Rattle.rows.specs.declared.row.Row.{Row}
use Rattle.rows.specs.Records.{row_of}
use Rattle.road.specs.declared.road.Road.{Road}
use Rattle.findings.specs.declared.walk.Context.{Context}
use Rattle.findings.specs.declared.walk.Flank.{Flank}
use Rattle.findings.specs.declared.walk.Walk.{Walk}
use Rattle.findings.specs.Alignments.{left}
use Rattle.findings.specs.Rules.{Admission}
use Rattle.findings.specs.Walk.{past, context_of, breaks, kinds, clothoid_kinds, other_kinds, given, gathered, gathered_from, counted, contexts, listed}
use Rattle.findings.specs.Findings.{finding_of}
use Rattle.findings.specs.declared.finding.Finding.{Finding}
use Rattle.findings.specs.declared.kind.Kind.{Kind}

given_length : (b : Bool) (f : Finding) → length (given b f) ≡ cond b 1 0
given_length true f = refl
given_length false f = refl

given_few : (b : Bool) (f : Finding) → length (given b f) ≤ 1
given_few true f = omega arith
given_few false f = omega arith

module _ (road : Road) where
  -- a row has as many findings as there are kinds that it breaks
  counted_is : (position : ℕ) (at : Context) (ks : List Kind) → counted road at ks ≡ length (gathered road position at ks)
  counted_is position at [] = refl
  counted_is position at (k ∷ ks) =
      let a : length (given (breaks road k at) (finding_of position k)) ≡ cond {A = ℕ} (breaks road k at) 1 0 = given_length (breaks road k at) (finding_of position k) in
      let b = counted_is position at ks in
      let e = length-append (given (breaks road k at) (finding_of position k)) (gathered road position at ks) in
      let m : counted road at (k ∷ ks) ≡ cond {A = ℕ} (breaks road k at) 1 0 + counted road at ks = sum_by-cons (λ j. cond (breaks road j at) 1 0) k ks in
      omega arith

  -- the rows have as many findings as they have one by one
  pub counted_from : (position : ℕ) (ats : List Context) → sum_by (λ at. counted road at kinds) ats ≡ length (gathered_from road position ats)
  counted_from position [] = refl
  counted_from position (at ∷ ats) =
      let a = counted_is position at kinds in
      let b = counted_from (position + 1) ats in
      let e = length-append (gathered road position at kinds) (gathered_from road (position + 1) ats) in
      let m = sum_by-cons (λ x. counted road x kinds) at ats in
      omega arith

  -- a row's findings, and then those of the rows after it
  pub rows_more : (now next position : ℕ) (at : Context) (ats later : List Context) → ats ≡ at ∷ later → position ≡ now → next ≡ now + 1
      → gathered_from road now ats ≡ gathered road position at kinds ++ gathered_from road next later
  rows_more now next position at ats later e p n = rw (e, p, n) refl

  pub gathered_both : (position : ℕ) (at : Context) (ks js : List Kind) → gathered road position at (ks ++ js) ≡ gathered road position at ks ++ gathered road position at js
  gathered_both position at [] js = refl
  gathered_both position at (k ∷ ks) js =
      cc (gathered_both position at ks js, append_assoc (given (breaks road k at) (finding_of position k)) (gathered road position at ks) (gathered road position at js))

  pub gather_all : (position : ℕ) (at : Context) (ks : List Kind) (k : ℕ) → length ks ≤ k → gathered road position at (drop k ks) ≡ []
  gather_all position at ks k h = at_drop_all (gathered road position at) ks k h

  -- a row has no more findings than there are kinds
  gathered_few : (position : ℕ) (at : Context) (ks : List Kind) → length (gathered road position at ks) ≤ length ks
  gathered_few position at [] = omega arith
  gathered_few position at (k ∷ ks) =
      let a = given_few (breaks road k at) (finding_of position k) in
      let b = gathered_few position at ks in
      let e = length-append (given (breaks road k at) (finding_of position k)) (gathered road position at ks) in
      omega arith

  sixteen : (position : ℕ) (at : Context) → length (gathered road position at kinds) ≤ 16
  unfolding kinds clothoid_kinds other_kinds
  sixteen position at = gathered_few position at kinds

module _ (road : Road) (admission : Admission) where
  -- each row has its context
  contexts_few : (behind : Flank) (rows : List Row) → length (contexts road admission behind rows) ≡ length rows
  contexts_few behind [] = refl
  contexts_few behind (r ∷ rows) = let e = contexts_few (past behind r) rows in omega arith

  pub listed_few : (position : ℕ) (behind : Flank) (rows : List Row) → length (listed road admission position behind rows) ≤ 16 * length rows
  listed_few position behind [] = omega arith
  listed_few position behind (r ∷ rows) =
      let a = sixteen road position (context_of road admission behind r rows) in
      let b = listed_few (position + 1) (past behind r) rows in
      let e = length-append (gathered road position (context_of road admission behind r rows) kinds) (listed road admission (position + 1) (past behind r) rows) in
      omega arith

-- a walk has no more rows left than a sheet has
pub left_few : {L : Type 0} (admitted : L → Admission) (walk : Walk L) → length (left admitted walk) ≤ 4_000
left_few admitted walk =
    let rows = map row_of walk.rows.now in
    let short = walk.short in
    omega (arith, contexts_few walk.road.now (admitted walk.limit.now) walk.behind rows, length-map walk.rows.now row_of)
