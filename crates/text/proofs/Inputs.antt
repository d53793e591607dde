-- The lines of an input that comes in parts.
use Rattle.std.proofs.Common.{◌≡◌, ◌≢◌, ℕ, suc, Bool, true, false, ltb, eqb, cond, List, [], ◌∷◌, ◌++◌, length, Option, Some, None, refl, sym, ap, ◌∙◌, arith, append_assoc}
use Rattle.std.proofs.lemmas.Bool.{ltb-true, ltb-false}
use Rattle.std.proofs.lemmas.Bool.Decides.{nat_tests}
use Rattle.std.proofs.lemmas.List.{length-append, append-nil}
use Rattle.text.specs.Lines.{WithinLongest, Grown, NoNewline, one_byte, ended_lines, unended}

pub unended-append : (begun : Option (List ℕ)) (xs ys : List ℕ) → unended begun (xs ++ ys) ≡ unended (unended begun xs) ys
unended-append begun [] ys = refl
unended-append begun (b ∷ xs) ys =
    let fresh = unended-append (Some []) xs ys in
    let further = unended-append (one_byte begun b) xs ys in
    grind (arith, nat_tests, fresh, further)

pub ended_lines-append : (begun : Option (List ℕ)) (xs ys : List ℕ) → ended_lines begun (xs ++ ys) ≡ ended_lines begun xs ++ ended_lines (unended begun xs) ys
ended_lines-append begun [] ys = refl
ended_lines-append begun (b ∷ xs) ys =
    let fresh = ended_lines-append (Some []) xs ys in
    let further = ended_lines-append (one_byte begun b) xs ys in
    grind (arith, nat_tests, fresh, further)

-- a byte more, by whether there is room for it
roomy-within : (front : List ℕ) (b : ℕ) (room : Bool) → ltb (length front) 16_384 ≡ room → WithinLongest (cond room (Some (front ++ b ∷ [])) None)
roomy-within front b true is = omega (arith, ltb-true (length front) 16_384 is, length-append front (b ∷ []))
roomy-within front b false is = tt

one_byte-within : (begun : Option (List ℕ)) (b : ℕ) → WithinLongest (one_byte begun b)
one_byte-within None b = tt
one_byte-within (Some front) b = roomy-within front b _ refl

-- the rest of a part is added behind its first byte
roomy-grown : (front : List ℕ) (after : Option (List ℕ)) (b : ℕ) (bs : List ℕ) (room : Bool) → ltb (length front) 16_384 ≡ room → Grown (Some front) (b ∷ bs) after → Grown (cond room (Some (front ++ b ∷ [])) None) bs after
roomy-grown front None b bs true is grown = omega (arith, length-append front (b ∷ []))
roomy-grown front (Some all) b bs true is grown = (omega (arith, length-append front (b ∷ []), grown.0), grown.1 ∙ sym (append_assoc front (b ∷ []) bs))
roomy-grown front None b bs false is grown = refl
roomy-grown front (Some all) b bs false is grown = absurd (omega (arith, ltb-false (length front) 16_384 is, grown.0))

one_byte-grown : (begun after : Option (List ℕ)) (b : ℕ) (bs : List ℕ) → Grown begun (b ∷ bs) after → Grown (one_byte begun b) bs after
one_byte-grown None after b bs grown = grown
one_byte-grown (Some front) after b bs grown = roomy-grown front after b bs _ refl grown

-- a part without a newline
pub grown-part : (begun after : Option (List ℕ)) (part : List ℕ) → WithinLongest begun → NoNewline part → Grown begun part after → (ended_lines begun part ≡ []) × (unended begun part ≡ after)
grown-part None after [] within plain grown = (refl, sym grown)
grown-part (Some front) None [] within plain grown = absurd (omega arith)
grown-part (Some front) (Some front') [] within plain grown = (refl, ap Some (sym (grown.1 ∙ append-nil front)))
grown-part begun after (b ∷ bs) within plain grown =
    let dark : b ≢ 10 = plain 0 (omega arith) in
    let is : eqb b 10 ≡ false = grind (arith, nat_tests) in
    rw is (grown-part (one_byte begun b) after bs (one_byte-within begun b) (λ k h. plain (suc k) (omega arith)) (one_byte-grown begun after b bs grown))

-- a part and the newline behind it
pub grown-line : (begun after : Option (List ℕ)) (part rest : List ℕ) → WithinLongest begun → NoNewline part → Grown begun part after → (ended_lines begun (part ++ 10 ∷ rest) ≡ after ∷ ended_lines (Some []) rest) × (unended begun (part ++ 10 ∷ rest) ≡ unended (Some []) rest)
grown-line begun after part rest within plain grown =
    let alone = grown-part begun after part within plain grown in (
      ended_lines-append begun part (10 ∷ rest) ∙ ap (λ l. l ++ (unended begun part ∷ ended_lines (Some []) rest)) alone.0 ∙ ap (λ line. line ∷ ended_lines (Some []) rest) alone.1,
      unended-append begun part (10 ∷ rest),
    )
