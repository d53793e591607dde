-- Where an error is as it has to be, the words say no command.
use Rattle.std.proofs.Common.{◌≡◌, ℕ, ◌+◌, ◌-◌, ◌<◌, ◌≤◌, List, [], ◌∷◌, length, get_or, take, drop, codes, zero, suc, Some, None, Option, cond, refl, sym, ap, ◌∙◌, subst, inl, inr, arith, length-drop}
use Rattle.std.specs.Borrow.{Bor}
use Rattle.std.specs.List.{slice_get}
use Rattle.std.specs.Option.{MatchOption}
use Rattle.std.specs.Str.{bytes_eq}
use Rattle.std.proofs.lemmas.List.{take-append-drop, drop_more, drop_all}
use Rattle.plain.specs.declared.NewRow.TheVariants as new
use Rattle.commands.specs.declared.command.Command.{Command}
use Rattle.commands.specs.declared.command.Command.TheVariants as command
use Rattle.commands.specs.declared.command.SheetCommand.TheVariants as sheet
use Rattle.limit_names.specs.declared.LimitName.TheVariants.{Table}
use Rattle.commands.specs.declared.name.Name.{Name}
use Rattle.commands.specs.declared.name.Name.TheVariants.{Road, Label, Straight, Curve, Remove, Set, Rows, Report, Limit, Check, Fit, Parameter, Reopen}
use Rattle.commands.specs.declared.mistake.Expected.{Expected}
use Rattle.commands.specs.declared.mistake.Expected.TheVariants as want
use Rattle.commands.specs.declared.mistake.ParseError.{ParseError}
use Rattle.commands.specs.Words.{none, word}
use Rattle.limit_names.specs.Names.{ALimit}
use Rattle.commands.specs.Names.{name_word, name_of, names, Names}
use Rattle.commands.specs.Mistakes.{Blames, Wanted, MayEnd, Wrong, In, LimitAt, StandsAt, Expects}
use Rattle.commands.specs.Said.{Operands, Says}
use Rattle.commands.proofs.NameSteps.{left_over, after_first}

-- what stands at position i, counted from 0, a word or the end of the line, is what is expected
abbrev Right : List (Bor (List ℕ)) → Expected → ℕ → Type 0
Right ws x i = (i < length ws → Wanted x (word ws i)) × (length ws ≡ i → MayEnd x)

-- and so at the positions from position i on
abbrev AllRight : List (Bor (List ℕ)) → List Expected → ℕ → Type 0
AllRight ws [] i = Unit {0}
AllRight ws (x ∷ xs) i = Right ws x i × AllRight ws xs (i + 1)

right_at : (ws : List (Bor (List ℕ))) (xs : List Expected) (i k : ℕ) (x : Expected) → AllRight ws xs i → slice_get xs k ≡ Some x → Right ws x (i + k)
right_at ws [] i k x all is = absurd (cc)
right_at ws (y ∷ ys) i zero x all is =
    let same : y ≡ x = cc in
    subst (λ j. Right ws x j) {x = i} {y = i + 0} (omega arith) (subst (λ z. Right ws z i) same all.0)
right_at ws (y ∷ ys) i (suc k) x all is = subst (λ j. Right ws x j) {x = (i + 1) + k} {y = i + suc k} (omega arith) (right_at ws ys (i + 1) k x all.1 is)

right_in : (ws : List (Bor (List ℕ))) (xs : List Expected) (at : ℕ) (x : Expected) → 1 < at → AllRight ws xs 1 → In xs ws at x → Right ws x (at - 1)
right_in ws xs at x some all stands = subst (λ j. Right ws x j) {x = 1 + (at - 2)} {y = at - 1} (omega arith) (right_at ws xs 1 (at - 2) x all stands.0)

-- a word, and the line does not end there
here : (ws : List (Bor (List ℕ))) (i : ℕ) (x : Expected) → Wanted x (word ws i) → (length ws ≡ i → ⊥) → Right ws x i
here ws i x wanted longer = (λ within. wanted, λ ends. absurd (longer ends))

-- the line ends
ended : (ws : List (Bor (List ℕ))) (i : ℕ) → length ws ≡ i → Right ws want.EndOfLine i
ended ws i ends = (λ within. omega arith, λ ends. tt)

-- the line ended before
past : (ws : List (Bor (List ℕ))) (i : ℕ) (x : Expected) → length ws < i → Right ws x i
past ws i x less = (λ within. absurd (omega arith), λ ends. absurd (omega arith))

first_name : (w : Bor (List ℕ)) (ws : List (Bor (List ℕ))) → Names (w ∷ ws) → ALimit w.now
first_name w [] names = names.0
first_name w (v ∷ ws) (inl p) = p.0.0
first_name w (v ∷ ws) (inr p) = (Table, p.0)

last_name : (w : Bor (List ℕ)) (ws : List (Bor (List ℕ))) → ws ≡ [] → Names (w ∷ ws) → w.now ≡ codes "table" → ⊥
last_name w [] last names table = names.1 table
last_name w (v ∷ ws) last names table = absurd (cc)

-- the names from position i on, where those before are names
names_from : (ws : List (Bor (List ℕ))) (i k : ℕ) → i ≡ k + 1 → i < length ws → Names (take k (drop 1 ws)) → Names (drop 1 ws) → Names (get_or ws i none ∷ drop (k + 1) (drop 1 ws))
names_from ws i k next within before all =
    let less : k < length (drop 1 ws) = simp length-drop (omega arith) in
    let left : Names (drop k (drop 1 ws)) = left_over (take k (drop 1 ws)) (drop k (drop 1 ws)) before (rw take-append-drop all) in
    subst (λ (w : Bor (List ℕ)). Names (w ∷ drop (k + 1) (drop 1 ws))) (after_first ws i k next) (rw (drop_more (drop 1 ws) k none less) at left)

right_limit : (ws : List (Bor (List ℕ))) (at : ℕ) (x : Expected) → 1 < length ws → length ws < 64 → Names (drop 1 ws) → 1 < at → LimitAt ws at x → Right ws x (at - 1)
right_limit ws at want.LimitName some few names beyond stands = (
  λ within. first_name (get_or ws (at - 1) none) _ (names_from ws (at - 1) (at - 2) (omega arith) within stands.1 names),
  λ ends. absurd (elim stands.2 [ inl e ↦ omega arith | inr e ↦ omega arith ]),
)
right_limit ws at want.FileName some few names beyond stands = (
  λ within. tt,
  λ ends.
      let last : drop (((at - 1) - 2) + 1) (drop 1 ws) ≡ [] = drop_all (((at - 1) - 2) + 1) (drop 1 ws) (simp length-drop (omega arith)) in
      last_name (get_or ws (at - 2) none) _ last (names_from ws (at - 2) ((at - 1) - 2) (omega arith) (omega arith) stands.2 names) stands.3,
)
right_limit ws at want.EndOfLine some few names beyond stands = (λ within. omega arith, λ ends. tt)
right_limit ws at x some few names beyond stands = absurd stands

right : (ws : List (Bor (List ℕ))) (c : Command) → Operands ws c → (at : ℕ) (x : Expected) → 1 < at → StandsAt (name_of c) ws at x → Right ws x (at - 1)
right ws (command.Road design) said at x some stands =
    right_in ws (want.Class ∷ want.Number ∷ want.Number ∷ want.Number ∷ want.JerkChoice ∷ want.EndOfLine ∷ []) at x some (
      here ws 1 want.Class (design.class, said.1) (λ e. omega arith),
      (
        here ws 2 want.Number said.2.0 (λ e. omega arith),
        (
          here ws 3 want.Number said.3.0 (λ e. omega arith),
          (
            here ws 4 want.Number said.4.0 (λ e. omega arith),
            (
              here ws 5 want.JerkChoice (design.choice, said.5) (λ e. omega arith),
              (
                ended ws 6 said.0,
                tt,
              ),
            ),
          ),
        ),
      ),
    ) stands
right ws (command.Label radius turn) said at x some stands =
    right_in ws (want.Number ∷ want.Number ∷ want.EndOfLine ∷ []) at x some (
      here ws 1 want.Number said.1.0 (λ e. omega arith),
      (
        here ws 2 want.Number said.2.0 (λ e. omega arith),
        (
          ended ws 3 said.0,
          tt,
        ),
      ),
    ) stands
right ws (command.Sheet (sheet.Add (new.Straight len) None)) said at x some stands =
    right_in ws (want.Number ∷ want.Before ∷ want.Number ∷ want.EndOfLine ∷ []) at x some (
      here ws 1 want.Number said.0.0 (λ e. omega arith),
      (
        (λ within. absurd (omega arith), λ ends. tt),
        (
          past ws 3 want.Number (omega arith),
          (
            past ws 4 want.EndOfLine (omega arith),
            tt,
          ),
        ),
      ),
    ) stands
right ws (command.Sheet (sheet.Add (new.Straight len) (Some row))) said at x some stands =
    right_in ws (want.Number ∷ want.Before ∷ want.Number ∷ want.EndOfLine ∷ []) at x some (
      here ws 1 want.Number said.0.0 (λ e. omega arith),
      (
        here ws 2 want.Before said.1.1 (λ e. omega arith),
        (
          here ws 3 want.Number said.1.2.0 (λ e. omega arith),
          (
            ended ws 4 said.1.0,
            tt,
          ),
        ),
      ),
    ) stands
right ws (command.Sheet (sheet.Add (new.Curve sense radius turn) None)) said at x some stands =
    right_in ws (want.Sense ∷ want.Number ∷ want.Number ∷ want.Before ∷ want.Number ∷ want.EndOfLine ∷ []) at x some (
      here ws 1 want.Sense (sense, said.0) (λ e. omega arith),
      (
        here ws 2 want.Number said.1.0 (λ e. omega arith),
        (
          here ws 3 want.Number said.2.0 (λ e. omega arith),
          (
            (λ within. absurd (omega arith), λ ends. tt),
            (
              past ws 5 want.Number (omega arith),
              (
                past ws 6 want.EndOfLine (omega arith),
                tt,
              ),
            ),
          ),
        ),
      ),
    ) stands
right ws (command.Sheet (sheet.Add (new.Curve sense radius turn) (Some row))) said at x some stands =
    right_in ws (want.Sense ∷ want.Number ∷ want.Number ∷ want.Before ∷ want.Number ∷ want.EndOfLine ∷ []) at x some (
      here ws 1 want.Sense (sense, said.0) (λ e. omega arith),
      (
        here ws 2 want.Number said.1.0 (λ e. omega arith),
        (
          here ws 3 want.Number said.2.0 (λ e. omega arith),
          (
            here ws 4 want.Before said.3.1 (λ e. omega arith),
            (
              here ws 5 want.Number said.3.2.0 (λ e. omega arith),
              (
                ended ws 6 said.3.0,
                tt,
              ),
            ),
          ),
        ),
      ),
    ) stands
right ws (command.Sheet (sheet.Remove row)) said at x some stands =
    right_in ws (want.Number ∷ want.EndOfLine ∷ []) at x some (here ws 1 want.Number said.1.0 (λ e. omega arith), (ended ws 2 said.0, tt)) stands
right ws (command.Sheet (sheet.Set row entry exit)) said at x some stands =
    right_in ws (want.Number ∷ want.Number ∷ want.Number ∷ want.EndOfLine ∷ []) at x some (
      here ws 1 want.Number said.1.0 (λ e. omega arith),
      (
        here ws 2 want.Number said.2.0 (λ e. omega arith),
        (
          here ws 3 want.Number said.3.0 (λ e. omega arith),
          (
            ended ws 4 said.0,
            tt,
          ),
        ),
      ),
    ) stands
right ws (command.Sheet sheet.Check) said at x some stands = right_in ws (want.EndOfLine ∷ []) at x some (ended ws 1 said, tt) stands
right ws (command.Sheet sheet.Fit) said at x some stands = right_in ws (want.EndOfLine ∷ []) at x some (ended ws 1 said, tt) stands
right ws (command.Sheet (sheet.Parameter row end)) said at x some stands =
    right_in ws (want.Number ∷ want.End ∷ want.EndOfLine ∷ []) at x some (
      here ws 1 want.Number said.1.0 (λ e. omega arith),
      (
        here ws 2 want.End (end, said.2) (λ e. omega arith),
        (
          ended ws 3 said.0,
          tt,
        ),
      ),
    ) stands
right ws (command.Sheet sheet.Reopen) said at x some stands = right_in ws (want.EndOfLine ∷ []) at x some (ended ws 1 said, tt) stands
right ws command.Rows said at x some stands = right_in ws (want.EndOfLine ∷ []) at x some (ended ws 1 said, tt) stands
right ws command.Report said at x some stands = right_in ws (want.EndOfLine ∷ []) at x some (ended ws 1 said, tt) stands
right ws command.Limit said at x some stands = right_limit ws at x said.0 said.1 said.2 some stands

-- the first of the names that has the word
name_called : List ℕ → List Name → Name
name_called w [] = Reopen
name_called w (n ∷ ns) = cond (bytes_eq w (name_word n)) n (name_called w ns)

called : (n : Name) → name_called (name_word n) names ≡ n
unfolding name_called
called Road = refl
called Label = refl
called Straight = refl
called Curve = refl
called Remove = refl
called Set = refl
called Rows = refl
called Report = refl
called Limit = refl
called Check = refl
called Fit = refl
called Parameter = refl
called Reopen = refl

one_name : (m n : Name) → name_word m ≡ name_word n → m ≡ n
one_name m n e = sym (called m) ∙ ap (λ w. name_called w names) e ∙ called n

not_wrong : (ws : List (Bor (List ℕ))) (at : ℕ) (x : Expected) (found : Option (Bor (List ℕ))) → MatchOption found (at ≡ length ws + 1) (λ w. (0 < at) × (at ≤ length ws) × (w.now ≡ word ws (at - 1))) → (at ≤ length ws → Wanted x (word ws (at - 1)) → ⊥) × (at ≡ length ws + 1 → MayEnd x → ⊥) → Right ws x (at - 1) → ⊥
not_wrong ws at x None placed wrong right = wrong.1 placed (right.1 (omega arith))
not_wrong ws at x (Some w) placed wrong right = wrong.0 placed.1 (right.0 (omega arith))

expected_right : (ws : List (Bor (List ℕ))) (e : ParseError) → 0 < length ws → Expects ws e → (c : Command) → Says ws c → Right ws e.expected (e.at - 1)
expected_right ws e some (inl (first, is)) c said = rw (is, first) (here ws 0 want.Command (name_of c, said.0) (λ ends. omega arith))
expected_right ws e some (inr (name, is, beyond, stands)) c said =
    let same : name ≡ name_of c = one_name name (name_of c) (sym is ∙ said.0) in
    right ws c said.1 e.at e.expected beyond (subst (λ n. StandsAt n ws e.at e.expected) same stands)

pub none_said : (ws : List (Bor (List ℕ))) (e : ParseError) → 0 < length ws → Blames ws e → Expects ws e → Wrong ws e → (c : Command) → Says ws c → ⊥
none_said ws e some blames expects wrong c said = not_wrong ws e.at e.expected e.word blames wrong (expected_right ws e some expects c said)
