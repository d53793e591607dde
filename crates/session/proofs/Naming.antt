-- The bytes of a client's file, and the limits that words name.
use Rattle.std.proofs.Common.{◌≡◌, ℕ, ◌+◌, ◌≤◌, inl, inr, List, [], ◌∷◌, length, take, drop, Option, Some, None, option_map, IfSome, ap, ◌∙◌, subst, arith}
use Rattle.std.specs.Borrow.{Bor}
use Rattle.std.proofs.lemmas.List.{length-take, length-drop, take_all}
use Rattle.commands.proofs.NameSteps.{named_alone}
use Rattle.limit_names.specs.declared.LimitName.{LimitName}
use Rattle.choice.specs.declared.ChosenLimit.{ChosenLimit}
use Rattle.choice.specs.declared.ChosenLimit.TheVariants.{Comfort, Transition, Azimuth, Shift, FifthOfTurn, Table}
use Rattle.limit_names.specs.declared.LimitName.TheVariants as names
use Rattle.limit_names.specs.Names.{limit_word}
use Rattle.session.specs.declared.limit_words.NoLimits.{NoLimits}
use Rattle.session.specs.declared.limit_words.NoLimits.TheVariants.{Unreadable, NoMemory}
use Rattle.session.specs.LimitWords.{NamedFirst, FileAt, OfFile}

-- what fits in a part is the whole
pub whole : (known : Option (List ℕ)) (items : List ℕ) → IfSome (option_map (take 64_000_001) known) (λ xs. items ≡ xs) → length items ≤ 64_000_000 → IfSome known (λ all. (items ≡ all) × (length all ≤ 64_000_000))
whole None items is few = tt
whole (Some all) items is few =
    let number = ap length is ∙ length-take 64_000_001 all in
    let small : length all ≤ 64_000_000 = omega (arith, number) in
    (is ∙ take_all 64_000_001 all (omega (arith, small)), small)

-- how many words a limit takes
abbrev pub words_of : ChosenLimit → ℕ
words_of (Table bytes) = 2
words_of l = 1

one_more : (w : Bor (List ℕ)) (ws rest : List (Bor (List ℕ))) → rest ≡ ws → length (w ∷ ws) ≡ 1 + length rest
one_more w ws rest cut = let long = ap length cut in omega arith

takes : (ws rest : List (Bor (List ℕ))) (l : ChosenLimit) → NamedFirst ws l rest → length ws ≡ words_of l + length rest
takes [] rest l named = absurd named
takes (w ∷ ws) rest (Table bytes) (file, is, cut, few) = let long = ap length cut in omega arith
takes (w ∷ ws) rest Comfort (is, cut) = one_more w ws rest cut
takes (w ∷ ws) rest Transition (is, cut) = one_more w ws rest cut
takes (w ∷ ws) rest Azimuth (is, cut) = one_more w ws rest cut
takes (w ∷ ws) rest Shift (is, cut) = one_more w ws rest cut
takes (w ∷ ws) rest FifthOfTurn (is, cut) = one_more w ws rest cut

-- so many they are
pub taken_so : (ws : List (Bor (List ℕ))) (taken : ℕ) (l : ChosenLimit) → taken ≤ length ws → NamedFirst ws l (drop taken ws) → taken ≡ words_of l
taken_so ws taken l few named = omega (arith, takes ws (drop taken ws) l named, length-drop taken ws)

-- behind a word that names a limit without a file
behind_plain : (from : ℕ) (w : Bor (List ℕ)) (ws rest : List (Bor (List ℕ))) (at : ℕ) (file : List ℕ) (name : LimitName) → w.now ≡ limit_word name → (name ≡ names.Table → ⊥) → rest ≡ ws → FileAt (from + 1) rest at file → FileAt from (w ∷ ws) at file
behind_plain from w [] [] at file name is other cut stands = absurd stands
behind_plain from w [] (r ∷ rest) at file name is other cut stands = absurd (let none : length (r ∷ rest) ≡ 0 = ap length cut in omega arith)
behind_plain from w (v ∷ ws) rest at file name is other cut stands = inr (named_alone w.now name is other, subst (λ l. FileAt (from + 1) l at file) cut stands)

-- a file among the words behind a limit is a file among all
pub file_behind : (from taken : ℕ) (ws rest : List (Bor (List ℕ))) (l : ChosenLimit) (at : ℕ) (file : List ℕ) → taken ≡ words_of l → NamedFirst ws l rest → FileAt (from + taken) rest at file → FileAt from ws at file
file_behind from taken [] rest l at file two named stands = absurd named
file_behind from taken (w ∷ ws) rest (Table bytes) at file two (name, is, cut, few) stands = rw cut (inl (is, inr (subst (λ k. FileAt (from + k) rest at file) two stands)))
file_behind from taken (w ∷ ws) rest Comfort at file one (is, cut) stands = behind_plain from w ws rest at file names.Comfort is (λ table. grind (arith, table)) cut (subst (λ k. FileAt (from + k) rest at file) one stands)
file_behind from taken (w ∷ ws) rest Transition at file one (is, cut) stands = behind_plain from w ws rest at file names.Transition is (λ table. grind (arith, table)) cut (subst (λ k. FileAt (from + k) rest at file) one stands)
file_behind from taken (w ∷ ws) rest Azimuth at file one (is, cut) stands = behind_plain from w ws rest at file names.Azimuth is (λ table. grind (arith, table)) cut (subst (λ k. FileAt (from + k) rest at file) one stands)
file_behind from taken (w ∷ ws) rest Shift at file one (is, cut) stands = behind_plain from w ws rest at file names.Shift is (λ table. grind (arith, table)) cut (subst (λ k. FileAt (from + k) rest at file) one stands)
file_behind from taken (w ∷ ws) rest FifthOfTurn at file one (is, cut) stands = behind_plain from w ws rest at file names.Fifth is (λ table. grind (arith, table)) cut (subst (λ k. FileAt (from + k) rest at file) one stands)

pub of_all : (from : ℕ) (ws all : List (Bor (List ℕ))) → ((at : ℕ) (file : List ℕ) → FileAt from ws at file → FileAt 2 all at file) → (e : NoLimits) → OfFile from ws e → OfFile 2 all e
of_all from ws all files (Unreadable at file why) stands = files at file.now stands
of_all from ws all files (NoMemory e) stands = tt
