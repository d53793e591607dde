-- There is one least list of lengths and one first row without any, and limits that admit alike have the same.
use Rattle.std.proofs.Common.{◌≡◌, ℕ, suc, ◌+◌, ◌<◌, List, [], ◌∷◌, map, length, take, sym, refl, ap, ap₂, ◌∙◌, subst, inl, inr, arith}
use Rattle.std.proofs.lemmas.Bool.{cases_order}
use Rattle.road.specs.declared.road.Road.{Road}
use Rattle.limits.specs.declared.place.Place.{Place}
use Rattle.rows.proofs.Fits.{read_back}
use Rattle.rows.specs.declared.record.RowRecord.TheVariants as stored
use Rattle.rows.specs.declared.row.Row.{Row}
use Rattle.rows.specs.declared.row.Row.TheVariants as row
use Rattle.rows.specs.Records.{row_of, record_of}
use Rattle.findings.specs.Rules.{Admission}
use Rattle.plain.specs.Lengths.{AlikeRow, Alike, NoLongerRow, NoLonger, LeastLengths, SomeLengths, NoLengths, FirstWithout}
use Rattle.fitting.specs.Demands.{lengths}
use Rattle.fitting.proofs.SubjectRows.{alike_take}

-- At every place the two limits admit the same lengths.
abbrev pub AdmitAlike : Admission → Admission → Type 0
AdmitAlike first second = (place : Place) (length : ℕ) → first place length ≡ second place length

-- Rows have one least list of lengths.
abbrev pub OneLeast : Type 0
OneLeast =
    (road : Road) (admission : Admission) (rows fitted other : List Row) → LeastLengths road admission rows fitted
    → LeastLengths road admission rows other → fitted ≡ other

-- Rows have one first row without a list of lengths.
abbrev pub OneFirst : Type 0
OneFirst =
    (road : Road) (admission : Admission) (rows : List Row) (n m : ℕ) → FirstWithout road admission rows n → FirstWithout road admission rows m → n ≡ m

-- Rows with least lengths are not without lengths.
abbrev pub NeverBoth : Type 0
NeverBoth =
    (road : Road) (admission : Admission) (rows fitted : List Row) → LeastLengths road admission rows fitted → NoLengths road admission rows → ⊥

-- Under limits that admit alike, the same rows have the same least lengths, whatever lengths they have to begin with.
abbrev pub LeastAgree : Type 0
LeastAgree =
    (road : Road) (first second : Admission) (rows others fitted other_fitted : List Row) → AdmitAlike first second → Alike rows others
    → LeastLengths road first rows fitted → LeastLengths road second others other_fitted → fitted ≡ other_fitted

-- And the same first row without a list, and none together.
abbrev pub FirstAgree : Type 0
FirstAgree =
    (road : Road) (first second : Admission) (rows others : List Row) (n : ℕ) → AdmitAlike first second → Alike rows others
    → FirstWithout road first rows n → FirstWithout road second others n

abbrev pub NoneAgree : Type 0
NoneAgree =
    (road : Road) (first second : Admission) (rows others : List Row) → AdmitAlike first second → Alike rows others
    → NoLengths road first rows → NoLengths road second others

-- a row is known by its record
same_row : (r o : Row) → record_of r ≡ record_of o → r ≡ o
same_row r o e = sym (read_back r) ∙ ap row_of e ∙ read_back o

-- rows that are alike, and neither longer than the other, are the same
same_by : (r f o : Row) → AlikeRow r f → AlikeRow r o → NoLongerRow f o → NoLongerRow o f → record_of f ≡ record_of o
same_by (row.Straight s) (row.Straight t) (row.Straight u) a b x y = ap stored.Straight (a ∙ sym b)
same_by (row.Straight s) (row.Straight t) (row.Curve e) a b x y = absurd b
same_by (row.Straight s) (row.Curve d) o a b x y = absurd a
same_by (row.Curve c) (row.Straight t) o a b x y = absurd a
same_by (row.Curve c) (row.Curve d) (row.Straight u) a b x y = absurd b
same_by (row.Curve c) (row.Curve d) (row.Curve e) (sense, radius, turn) (senses, radii, turns) x y =
    let entry : d.entry ≡ e.entry = omega (arith, x.0, y.0) in
    let exit : d.exit ≡ e.exit = omega (arith, x.1, y.1) in
    let s = sense ∙ sym senses in
    let r = radius ∙ sym radii in
    let t = turn ∙ sym turns in
    λ i. stored.Curve (s i) (r i) (t i) (entry i) (exit i)

same_rows : (rows fitted others : List Row) → Alike rows fitted → Alike rows others → NoLonger fitted others → NoLonger others fitted → fitted ≡ others
same_rows [] [] [] a b x y = refl
same_rows [] [] (o ∷ others) a b x y = absurd b
same_rows [] (f ∷ fitted) others a b x y = absurd a
same_rows (r ∷ rows) [] others a b x y = absurd a
same_rows (r ∷ rows) (f ∷ fitted) [] a b x y = absurd b
same_rows (r ∷ rows) (f ∷ fitted) (o ∷ others) a b x y =
    ap₂ ◌∷◌ (same_row f o (same_by r f o a.0 b.0 x.0 y.0)) (same_rows rows fitted others a.1 b.1 x.1 y.1)

pub one_least : OneLeast
one_least road admission rows fitted other p q =
    same_rows rows fitted other p.alike q.alike (p.least other q.alike q.keeps) (q.least fitted p.alike p.keeps)

not_sooner : (road : Road) (admission : Admission) (rows : List Row) (n m : ℕ) → FirstWithout road admission rows n → FirstWithout road admission rows m → n < m → ⊥
not_sooner road admission rows n m p q less =
    let (others, alike, keeps) = q.some (n + 1) (omega arith) in p.none others alike keeps

pub one_first : OneFirst
one_first road admission rows n m p q =
    elim (cases_order n m) [
      | inl e ↦ e
      | inr (inl less) ↦ absurd (not_sooner road admission rows n m p q less)
      | inr (inr more) ↦ absurd (not_sooner road admission rows m n q p more)
    ]

pub never_both : NeverBoth
never_both road admission rows fitted p none = none fitted p.alike p.keeps

-- being the same rows goes both ways, and from list to list
alike_back_row : (r o : Row) → AlikeRow r o → AlikeRow o r
alike_back_row (row.Straight s) (row.Straight t) a = sym a
alike_back_row (row.Straight s) (row.Curve d) a = absurd a
alike_back_row (row.Curve c) (row.Straight t) a = absurd a
alike_back_row (row.Curve c) (row.Curve d) (sense, radius, turn) = (sym sense, sym radius, sym turn)

pub alike_back : (rows others : List Row) → Alike rows others → Alike others rows
alike_back [] [] a = tt
alike_back [] (o ∷ others) a = absurd a
alike_back (r ∷ rows) [] a = absurd a
alike_back (r ∷ rows) (o ∷ others) a = (alike_back_row r o a.0, alike_back rows others a.1)

alike_through_row : (r f o : Row) → AlikeRow r f → AlikeRow f o → AlikeRow r o
alike_through_row (row.Straight s) (row.Straight t) (row.Straight u) a b = b ∙ a
alike_through_row (row.Straight s) (row.Straight t) (row.Curve e) a b = absurd b
alike_through_row (row.Straight s) (row.Curve d) o a b = absurd a
alike_through_row (row.Curve c) (row.Straight t) o a b = absurd a
alike_through_row (row.Curve c) (row.Curve d) (row.Straight u) a b = absurd b
alike_through_row (row.Curve c) (row.Curve d) (row.Curve e) (sense, radius, turn) (senses, radii, turns) =
    (senses ∙ sense, radii ∙ radius, turns ∙ turn)

pub alike_through : (rows fitted others : List Row) → Alike rows fitted → Alike fitted others → Alike rows others
alike_through [] [] [] a b = tt
alike_through [] [] (o ∷ others) a b = absurd b
alike_through [] (f ∷ fitted) others a b = absurd a
alike_through (r ∷ rows) [] others a b = absurd a
alike_through (r ∷ rows) (f ∷ fitted) [] a b = absurd b
alike_through (r ∷ rows) (f ∷ fitted) (o ∷ others) a b = (alike_through_row r f o a.0 b.0, alike_through rows fitted others a.1 b.1)

pub alike_length : (rows others : List Row) → Alike rows others → length others ≡ length rows
alike_length [] [] a = refl
alike_length [] (o ∷ others) a = absurd a
alike_length (r ∷ rows) [] a = absurd a
alike_length (r ∷ rows) (o ∷ others) a = ap suc (alike_length rows others a.1)

-- admissions that agree at every place and length are equal
same_admission : (first second : Admission) → AdmitAlike first second → second ≡ first
same_admission first second alike = λ i place length. sym (alike place length) i

module _ (road : Road) (admission : Admission) (rows others : List Row) (alike : Alike rows others) where
  pub least_from : (fitted : List Row) → LeastLengths road admission others fitted → LeastLengths road admission rows fitted
  least_from fitted p =
      record {
        alike = alike_through rows others fitted alike p.alike;
        keeps = p.keeps;
        least = λ xs same keeps. p.least xs (alike_through others rows xs (alike_back rows others alike) same) keeps;
      }

  none_to : NoLengths road admission rows → NoLengths road admission others
  none_to none xs same keeps = none xs (alike_through rows others xs alike same) keeps

  some_to : SomeLengths road admission rows → SomeLengths road admission others
  some_to (xs, same, keeps) = (xs, alike_through others rows xs (alike_back rows others alike) same, keeps)

first_to : (road : Road) (admission : Admission) (rows others : List Row) (n : ℕ) → Alike rows others → FirstWithout road admission rows n
    → FirstWithout road admission others n
first_to road admission rows others n alike p =
    record {
      within = omega (arith, p.within, alike_length rows others alike);
      none = none_to road admission (take (n + 1) rows) (take (n + 1) others) (alike_take (n + 1) rows others alike) p.none;
      some = λ k le. some_to road admission (take k rows) (take k others) (alike_take k rows others alike) (p.some k le);
    }

pub least_agree : LeastAgree
least_agree road first second rows others fitted other_fitted admit alike p q =
    one_least road first rows fitted other_fitted p
    (least_from road first rows others alike other_fitted
    (subst (λ (a : Admission). LeastLengths road a others other_fitted) (same_admission first second admit) q))

-- so the lengths themselves are the same
pub lengths_agree : (road : Road) (first second : Admission) (rows others fitted other_fitted : List Row) → AdmitAlike first second → Alike rows others
    → LeastLengths road first rows fitted → LeastLengths road second others other_fitted → map lengths fitted ≡ map lengths other_fitted
lengths_agree road first second rows others fitted other_fitted admit alike p q =
    ap (map lengths) (least_agree road first second rows others fitted other_fitted admit alike p q)

pub first_agree : FirstAgree
first_agree road first second rows others n admit alike p =
    subst (λ (a : Admission). FirstWithout road a others n) (sym (same_admission first second admit)) (first_to road first rows others n alike p)

pub none_agree : NoneAgree
none_agree road first second rows others admit alike none =
    subst (λ (a : Admission). NoLengths road a others) (sym (same_admission first second admit)) (none_to road first rows others alike none)
