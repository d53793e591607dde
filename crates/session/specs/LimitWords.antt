-- The limits that the words of a line name.
use Rattle.std.specs.Prelude.{◌≡◌, ℕ, ◌+◌, ◌<◌, ◌≤◌, ◌⊎◌, List, [], ◌∷◌, ◌++◌, Option, Some, None, IfSome, length, vec_items, codes, decimal}
use Rattle.std.specs.Borrow.{Bor}
use Rattle.std.specs.List.{flat_map}
use Rattle.limit_names.specs.Names.{limit_word}
use Rattle.choice.specs.declared.ChosenLimit.{ChosenLimit}
use Rattle.choice.specs.declared.ChosenLimit.TheVariants.{Table}
use Rattle.choice.specs.Governors.{name_of}
use Rattle.text.specs.Shown.{shown}
use Rattle.commands.specs.Names.{NamedAlone}
use Rattle.session.specs.declared.limit_words.NoLimits.{NoLimits}
use Rattle.session.specs.declared.limit_words.NoLimits.TheVariants.{Unreadable, NoMemory}
use Rattle.session.specs.declared.limit_words.NoTable.{NoTable}
use Rattle.session.specs.declared.limit_words.NoTable.TheVariants as no_table

-- The first of the words names the limit, and behind the name of a table stands that of its file, which has at most 64,000,000 bytes; the rest are the
-- words behind these. No contract can say which bytes a file has.
abbrev pub NamedFirst : List (Bor (List ℕ)) → ChosenLimit → List (Bor (List ℕ)) → Type 0
NamedFirst [] l rest = ⊥
NamedFirst (w ∷ ws) (Table bytes) rest = (file : Bor (List ℕ)) × (w.now ≡ codes "table") × (ws ≡ file ∷ rest) × (length (vec_items bytes) ≤ 64_000_000)
NamedFirst (w ∷ ws) l rest = (w.now ≡ limit_word (name_of l)) × (rest ≡ ws)

-- The words name the limits, one after the other.
abbrev pub NamesLimits : List (Bor (List ℕ)) → List ChosenLimit → Type 0
NamesLimits ws [] = ws ≡ []
NamesLimits ws (l ∷ ls) = (rest : List (Bor (List ℕ))) × NamedFirst ws l rest × NamesLimits rest ls

-- The word with the number `at` is the name of a table's file, where the first of the words has the number `from`.
abbrev pub FileAt : (from : ℕ) → List (Bor (List ℕ)) → (at : ℕ) (file : List ℕ) → Type 0
FileAt from [] at file = ⊥
FileAt from (w ∷ []) at file = ⊥
FileAt from (w ∷ v ∷ ws) at file =
    ((w.now ≡ codes "table") × (((at ≡ from + 1) × (file ≡ v.now)) ⊎ FileAt (from + 2) ws at file))
    ⊎ (NamedAlone w.now × FileAt (from + 1) (v ∷ ws) at file)

-- Which file of a line cannot be read, and why.
abbrev pub unreadable_text : (at : ℕ) (file why : List ℕ) → List ℕ
unreadable_text at file why =
    codes "word " ++ (decimal at ++ (codes " is \"" ++ (shown file ++ (codes "\", a file that cannot be read: " ++ (why ++ codes "; the limits stay as they were")))))

-- The words as they are written again, with a space between two.
abbrev pub spaced : Bor (List ℕ) → List ℕ
spaced w = 32 ∷ shown w.now

abbrev pub echo : List (Bor (List ℕ)) → List ℕ
echo [] = []
echo (w ∷ ws) = shown w.now ++ flat_map spaced ws

-- For private contracts: a table is called too large only where it is, and in these words; what the host says of a file is its own.
abbrev pub IsLarge : (all : List ℕ) → NoTable → Type 0
IsLarge all (no_table.Unreadable why) = Unit {0}
IsLarge all no_table.TooLarge = 64_000_000 < length all

-- All that a reader had, where that is known, and no more than a table has; and what is said where it has no table.
abbrev pub WholeTable : (known : Option (List ℕ)) → List ℕ → Type 0
WholeTable known bytes = IfSome known (λ all. (bytes ≡ all) × (length all ≤ 64_000_000))

abbrev pub LargeIn : (known : Option (List ℕ)) → NoTable → Type 0
LargeIn known why = IfSome known (λ all. IsLarge all why)

abbrev pub no_table_text : NoTable → Option (List ℕ)
no_table_text (no_table.Unreadable why) = None
no_table_text no_table.TooLarge = Some (codes "it is larger than " ++ (decimal 64_000_000 ++ codes " bytes"))

-- Why there are no limits. It is this file, for what is said of it; it is a file that the words name; or there is no memory.
abbrev pub Reads : (at : ℕ) (file : List ℕ) (said : Option (List ℕ)) → NoLimits → Type 0
Reads at file said (Unreadable number name why) = (number ≡ at) × (name.now ≡ file) × IfSome said (λ text. why.bytes.items ≡ text)
Reads at file said (NoMemory e) = Unit {0}

abbrev pub OfFile : (from : ℕ) → List (Bor (List ℕ)) → NoLimits → Type 0
OfFile from ws (Unreadable at file why) = FileAt from ws at file.now
OfFile from ws (NoMemory e) = Unit {0}
