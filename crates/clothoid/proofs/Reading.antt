-- What is answered of an input, part by part.
use Rattle.std.proofs.Common.{◌≡◌, ◌≢◌, ℕ, ◌<◌, ◌⊎◌, inl, inr, Bool, true, false, ◌&&◌, T, cond, Bor, List, [], ◌∷◌, ◌++◌, length, take, Option, Some, None, IfSome, refl, sym, ap, ◌∙◌, subst, append_assoc}
use Rattle.std.specs.Prelude.{MatchOption}
use Rattle.std.specs.Io.KnownBytes.{Appends, Keeps, Consumes, IsAtEnd}
use Rattle.std.proofs.lemmas.List.{append-nil}
use Rattle.text.specs.Lines.{WithinLongest, Grown, NoNewline, ended_lines, unended, last_line}
use Rattle.text.proofs.Inputs.{ended_lines-append, unended-append, grown-part, grown-line}
use Rattle.session.specs.declared.Session.{Session}
use Rattle.session.specs.Lines.{bytes_of}
use Rattle.session.specs.Faults.{any}
use Rattle.session.specs.Inputs.{LineDone, LinesDone, Begun, InputAnswered}

append_both : (old mid new : Option (List ℕ)) (xs ys : List ℕ) → Appends old mid xs → Appends mid new ys → Appends old new (xs ++ ys)
append_both None mid new xs ys p q = tt
append_both (Some a) None new xs ys p q = absurd p
append_both (Some a) (Some b) None xs ys p q = absurd q
append_both (Some a) (Some b) (Some c) xs ys p q = q ∙ ap (λ l. l ++ ys) p ∙ append_assoc a xs ys

append_none : (old : Option (List ℕ)) → Appends old old []
append_none None = tt
append_none (Some a) = sym (append-nil a)

append_kept : (old mid new : Option (List ℕ)) (xs : List ℕ) → Appends old mid xs → Keeps mid new → Appends old new xs
append_kept None mid new xs p q = tt
append_kept (Some a) None new xs p q = absurd p
append_kept (Some a) (Some b) None xs p q = absurd q
append_kept (Some a) (Some b) (Some c) xs p q = q ∙ p

-- by whether the program is to stop
either-then : (b : Bool) (P Q P' Q' : Type 0) → (b ≡ true → P → P') → (b ≡ false → Q → Q') → cond b P Q → cond b P' Q'
either-then true P Q P' Q' f g h = f refl h
either-then false P Q P' Q' f g h = g refl h

-- what `Pending::line` gives
pub same_line : (line : Option (Bor (List ℕ))) (pending : Option (List ℕ)) → MatchOption line (pending ≡ None) (λ l. pending ≡ Some l.now) → bytes_of line ≡ pending
same_line None pending is = sym is
same_line (Some l) pending is = sym is

module _ (stop : Bool) where
  -- where the program is to stop, no line is answered
  none_behind : (ls : List (Option (List ℕ))) (s : Session) → (stop && any s.faults) ≡ true → LinesDone stop ls s s []
  none_behind [] s stops = (refl, refl)
  none_behind (l ∷ ls) s stops = rw stops (refl, refl)

  same_behind : (ls : List (Option (List ℕ))) (s s' : Session) (text : List ℕ) → (stop && any s.faults) ≡ true → LinesDone stop ls s s' text → (s' ≡ s) × (text ≡ [])
  same_behind [] s s' text stops done = done
  same_behind (l ∷ ls) s s' text stops done = rw stops at done

  one_done : (l : Option (List ℕ)) (s s' : Session) (text : List ℕ) → (stop && any s.faults) ≡ false → LineDone l s s' text → LinesDone stop (l ∷ []) s s' text
  one_done l s s' text goes done = rw goes (s', text, [], done, (refl, refl), sym (append-nil text))

  both_stopped : (more : List (Option (List ℕ))) (s mid s' : Session) (text rest : List ℕ) → LinesDone stop more mid s' rest → (stop && any s.faults) ≡ true → (mid ≡ s) × (text ≡ []) → (s' ≡ s) × (text ++ rest ≡ [])
  both_stopped more s mid s' text rest behind stops stays =
      let same = same_behind more s s' rest stops (subst (λ m. LinesDone stop more m s' rest) stays.0 behind) in
      (same.0, ap (λ t. t ++ rest) stays.1 ∙ same.1)

  done-append : (ls more : List (Option (List ℕ))) (s mid s' : Session) (text rest : List ℕ) → LinesDone stop ls s mid text → LinesDone stop more mid s' rest → LinesDone stop (ls ++ more) s s' (text ++ rest)
  done-append [] more s mid s' text rest done behind = subst (λ t. LinesDone stop more s s' (t ++ rest)) (sym done.1) (subst (λ m. LinesDone stop more m s' rest) done.0 behind)
  done-append (l ∷ ls) more s mid s' text rest done behind = either-then (stop && any s.faults) _ _ _ _ (both_stopped more s mid s' text rest behind)
      (λ goes all. (all.0, all.1, all.2 ++ rest, all.3, done-append ls more all.0 mid s' all.2 rest all.4 behind, ap (λ t. t ++ rest) all.5 ∙ append_assoc all.1 all.2 rest))
      done

  -- nor is one behind those where it stops
  done-stopped : (ls more : List (Option (List ℕ))) (s s' : Session) (text : List ℕ) → (stop && any s'.faults) ≡ true → LinesDone stop ls s s' text → LinesDone stop (ls ++ more) s s' text
  done-stopped ls more s s' text stops done = subst (LinesDone stop (ls ++ more) s s') (append-nil text) (done-append ls more s s' s' text [] done (none_behind more s' stops))

  -- The lines that end in these bytes are answered, behind what had come of the first; what has come of the next is pending, unless the program is to stop.
  pub record Answered (begun : Option (List ℕ)) (before : Session) (old : Option (List ℕ)) (bytes : List ℕ) (pending : Option (List ℕ)) (after : Session) (new : Option (List ℕ)) : Type 0 where
    pub text : List ℕ
    pub done : LinesDone stop (ended_lines begun bytes) before after text
    pub written : Appends old new text
    pub held : T (stop && any after.faults) ⊎ (pending ≡ unended begun bytes)

  pub answered_none : (begun : Option (List ℕ)) (s : Session) (old : Option (List ℕ)) → Answered begun s old [] begun s old
  answered_none begun s old = record { text = []; done = (refl, refl); written = append_none old; held = inr refl }

  -- a line and its newline
  pub answered_line : (begun line : Option (List ℕ)) (part : List ℕ) (s s' : Session) (old new : Option (List ℕ)) (text : List ℕ) → WithinLongest begun → NoNewline part → Grown begun part line → (stop && any s.faults) ≡ false → LineDone line s s' text → Appends old new text → Answered begun s old (part ++ 10 ∷ []) (Some []) s' new
  answered_line begun line part s s' old new text within plain grown goes done written =
      let ends = grown-line begun line part [] within plain grown in
      record { text = text; done = rw ends.0 (one_done line s s' text goes done); written = written; held = inr (sym ends.1) }

  -- a part without a newline
  pub answered_part : (begun after : Option (List ℕ)) (part : List ℕ) (s : Session) (old : Option (List ℕ)) → WithinLongest begun → NoNewline part → Grown begun part after → Answered begun s old part after s old
  answered_part begun after part s old within plain grown =
      let alone = grown-part begun after part within plain grown in
      record { text = []; done = rw alone.0 (refl, refl); written = append_none old; held = inr (sym alone.1) }

  pub answered_kept : (begun : Option (List ℕ)) (s : Session) (old : Option (List ℕ)) (bytes : List ℕ) (pending : Option (List ℕ)) (s' : Session) (mid new : Option (List ℕ)) → Answered begun s old bytes pending s' mid → Keeps mid new → Answered begun s old bytes pending s' new
  answered_kept begun s old bytes pending s' mid new a kept = record { text = a.text; done = a.done; written = append_kept old mid new a.text a.written kept; held = a.held }

  -- further bytes, where the program is to stop
  pub answered_stopped : (begun : Option (List ℕ)) (s : Session) (old : Option (List ℕ)) (bytes more : List ℕ) (pending last : Option (List ℕ)) (s' : Session) (new : Option (List ℕ)) → (stop && any s'.faults) ≡ true → Answered begun s old bytes pending s' new → Answered begun s old (bytes ++ more) last s' new
  answered_stopped begun s old bytes more pending last s' new stops a =
      record { text = a.text; done = rw (ended_lines-append begun bytes more) (done-stopped _ _ s s' a.text stops a.done); written = a.written; held = inl (rw stops tt) }

  -- further bytes that are answered; where the program is to stop they were not
  goes_on : {P : Type 0} (b : Bool) → b ≡ false → T b ⊎ P → P
  goes_on true is held = cc
  goes_on false is (inl stops) = absurd stops
  goes_on false is (inr p) = p

  behind : (lines : Option (List ℕ) → List (Option (List ℕ))) (mid begun : Option (List ℕ)) (m s' : Session) (text : List ℕ) (b : Bool) → (stop && any m.faults) ≡ b → T (stop && any m.faults) ⊎ (mid ≡ begun) → LinesDone stop (lines mid) m s' text → LinesDone stop (lines begun) m s' text
  behind lines mid begun m s' text true stops held done =
      let same = same_behind (lines mid) m s' text stops done in
      subst (λ e. LinesDone stop (lines begun) m e text) (sym same.0) (subst (LinesDone stop (lines begun) m m) (sym same.1) (none_behind (lines begun) m stops))
  behind lines mid begun m s' text false goes held done = subst (λ p. LinesDone stop (lines p) m s' text) (goes_on (stop && any m.faults) goes held) done

  still_held : (mid begun last : Option (List ℕ)) (more : List ℕ) (m s' : Session) (text : List ℕ) (b : Bool) → (stop && any m.faults) ≡ b → T (stop && any m.faults) ⊎ (mid ≡ begun) → LinesDone stop (ended_lines mid more) m s' text → T (stop && any s'.faults) ⊎ (last ≡ unended mid more) → T (stop && any s'.faults) ⊎ (last ≡ unended begun more)
  still_held mid begun last more m s' text true stops held done now =
      let same = same_behind (ended_lines mid more) m s' text stops done in
      inl (rw (same.0, stops) tt)
  still_held mid begun last more m s' text false goes held done now = subst (λ p. T (stop && any s'.faults) ⊎ (last ≡ unended p more)) (goes_on (stop && any m.faults) goes held) now

  pub answered_then : (begun : Option (List ℕ)) (s : Session) (old : Option (List ℕ)) (bytes more : List ℕ) (mid : Option (List ℕ)) (m : Session) (half last : Option (List ℕ)) (s' : Session) (new : Option (List ℕ)) → Answered begun s old bytes mid m half → Answered mid m half more last s' new → Answered begun s old (bytes ++ more) last s' new
  answered_then begun s old bytes more mid m half last s' new a b = record {
    text = a.text ++ b.text;
    done = rw (ended_lines-append begun bytes more) (done-append _ _ s m s' a.text b.text a.done (behind (λ p. ended_lines p more) mid (unended begun bytes) m s' b.text _ refl a.held b.done));
    written = append_both old half new a.text b.text a.written b.written;
    held = rw (unended-append begun bytes more) (still_held mid (unended begun bytes) last more m s' b.text _ refl a.held b.done b.held);
  }

  -- Of known input, what was read is answered, and what now remains of it is the rest.
  abbrev pub ReadOf : (known : Option (List ℕ)) (begun : Option (List ℕ)) (before : Session) (old now pending : Option (List ℕ)) (after : Session) (new : Option (List ℕ)) → Type 0
  ReadOf known begun before old now pending after new = IfSome known (λ input. (bytes rest : List ℕ) × (now ≡ Some rest) × (input ≡ bytes ++ rest) × Answered begun before old bytes pending after new)

  -- All of known input is answered.
  abbrev pub AllOf : (known : Option (List ℕ)) (begun : Option (List ℕ)) (before : Session) (old pending : Option (List ℕ)) (after : Session) (new : Option (List ℕ)) → Type 0
  AllOf known begun before old pending after new = IfSome known (λ input. Answered begun before old input pending after new)

  pub read_none : (known begun : Option (List ℕ)) (s : Session) (old : Option (List ℕ)) → ReadOf known begun s old known begun s old
  read_none None begun s old = tt
  read_none (Some input) begun s old = ([], input, refl, refl, answered_none begun s old)

  pub read_more : (known begun : Option (List ℕ)) (s : Session) (old now mid : Option (List ℕ)) (m : Session) (half : Option (List ℕ)) (chunk : List ℕ) (next last : Option (List ℕ)) (s' : Session) (new : Option (List ℕ)) → ReadOf known begun s old now mid m half → Consumes now next chunk → Answered mid m half chunk last s' new → ReadOf known begun s old next last s' new
  read_more None begun s old now mid m half chunk next last s' new so_far taken a = tt
  read_more (Some input) begun s old now mid m half chunk None last s' new so_far taken a = absurd (subst (λ n. Consumes n None chunk) so_far.2 taken)
  read_more (Some input) begun s old now mid m half chunk (Some rest) last s' new so_far taken a =
      let cut : so_far.1 ≡ chunk ++ rest = subst (λ n. Consumes n (Some rest) chunk) so_far.2 taken in (
        so_far.0 ++ chunk,
        rest,
        refl,
        so_far.3 ∙ ap (λ l. so_far.0 ++ l) cut ∙ sym (append_assoc so_far.0 chunk rest),
        answered_then begun s old so_far.0 chunk mid m half last s' new so_far.4 a,
      )

  pub read_stopped : (known begun : Option (List ℕ)) (s : Session) (old now pending : Option (List ℕ)) (s' : Session) (new : Option (List ℕ)) → (stop && any s'.faults) ≡ true → ReadOf known begun s old now pending s' new → AllOf known begun s old pending s' new
  read_stopped None begun s old now pending s' new stops so_far = tt
  read_stopped (Some input) begun s old now pending s' new stops so_far = rw so_far.3 (answered_stopped begun s old so_far.0 so_far.1 pending pending s' new stops so_far.4)

  -- a read gives nothing at the end of the input
  all_read : (known begun : Option (List ℕ)) (s : Session) (old now next pending : Option (List ℕ)) (s' : Session) (new : Option (List ℕ)) → Consumes now next [] → IsAtEnd next → ReadOf known begun s old now pending s' new → AllOf known begun s old pending s' new
  all_read None begun s old now next pending s' new taken at_end so_far = tt
  all_read (Some input) begun s old now None pending s' new taken at_end so_far = absurd (subst (λ n. Consumes n None []) so_far.2 taken)
  all_read (Some input) begun s old now (Some rest) pending s' new taken at_end so_far =
      let cut : so_far.1 ≡ rest = subst (λ n. Consumes n (Some rest) []) so_far.2 taken in
      rw (so_far.3 ∙ ap (λ l. so_far.0 ++ l) (cut ∙ at_end) ∙ append-nil so_far.0) so_far.4

  pub read_all : (known begun : Option (List ℕ)) (s : Session) (old now next pending : Option (List ℕ)) (s' : Session) (new : Option (List ℕ)) (count : ℕ) (buffer : List ℕ) → Consumes now next (take count buffer) × (count ≡ 0 → 0 < length buffer → IsAtEnd next) → count ≡ 0 → 0 < length buffer → ReadOf known begun s old now pending s' new → AllOf known begun s old pending s' new
  read_all known begun s old now next pending s' new count buffer taken none room so_far =
      all_read known begun s old now next pending s' new (subst (λ n. Consumes now next (take n buffer)) none taken.0) (taken.1 none room) so_far

  pub lines_of_all : (known begun : Option (List ℕ)) (s : Session) (old pending : Option (List ℕ)) (s' : Session) (new : Option (List ℕ)) → AllOf known begun s old pending s' new → IfSome known (λ input. (text : List ℕ) × LinesDone stop (ended_lines begun input) s s' text × Appends old new text)
  lines_of_all None begun s old pending s' new all = tt
  lines_of_all (Some input) begun s old pending s' new all = (all.text, all.done, all.written)

  pub held_of_all : (known begun : Option (List ℕ)) (s : Session) (old pending : Option (List ℕ)) (s' : Session) (new : Option (List ℕ)) → AllOf known begun s old pending s' new → IfSome known (λ input. T (stop && any s'.faults) ⊎ (pending ≡ unended begun input))
  held_of_all None begun s old pending s' new all = tt
  held_of_all (Some input) begun s old pending s' new all = all.held

  -- the last line
  last_one : (pending : Option (List ℕ)) → pending ≢ Some [] → last_line pending ≡ pending ∷ []
  last_one None some = refl
  last_one (Some []) some = absurd (some refl)
  last_one (Some (b ∷ bs)) some = refl

  pub last_done : (pending : Option (List ℕ)) (s s' : Session) (text : List ℕ) → pending ≢ Some [] → (stop && any s.faults) ≡ false → LineDone pending s s' text → LinesDone stop (last_line pending) s s' text
  last_done pending s s' text some goes done = rw (last_one pending some) (one_done pending s s' text goes done)

  pub input_done : (known : Option (List ℕ)) (s : Session) (old pending : Option (List ℕ)) (m : Session) (mid : Option (List ℕ)) (s' : Session) (half new : Option (List ℕ)) (last : List ℕ) → Begun s → AllOf known (Some []) s old pending m mid → LinesDone stop (last_line pending) m s' last → Appends mid half last → Keeps half new → IfSome known (λ input. (text : List ℕ) × InputAnswered stop input text s'.faults × Appends old new text)
  input_done None s old pending m mid s' half new last begun all done written kept = tt
  input_done (Some input) s old pending m mid s' half new last begun all done written kept =
      let behind_all = behind last_line pending (unended (Some []) input) m s' last _ refl all.held done in (
        all.text ++ last,
        record { first = s; last = s'; begun = begun; done = done-append _ _ s m s' all.text last all.done behind_all; all = refl },
        append_both old mid new all.text last all.written (append_kept mid half new last written kept),
      )

  pub all_of : (known begun : Option (List ℕ)) (s : Session) (old pending : Option (List ℕ)) (s' : Session) (new : Option (List ℕ)) → IfSome known (λ input. (text : List ℕ) × LinesDone stop (ended_lines begun input) s s' text × Appends old new text) → IfSome known (λ input. T (stop && any s'.faults) ⊎ (pending ≡ unended begun input)) → AllOf known begun s old pending s' new
  all_of None begun s old pending s' new lines held = tt
  all_of (Some input) begun s old pending s' new lines held = record { text = lines.0; done = lines.1; written = lines.2; held = held }
