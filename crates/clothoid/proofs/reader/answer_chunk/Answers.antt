use Rattle.std.proofs.Common.{◌≡◌, ℕ, List, [], ◌∷◌, ◌++◌, sym, ap, ◌∙◌, subst, append_assoc}
use Rattle.session.specs.Inputs.{LineDone}
use Rattle.clothoid.proofs.Reading.{same_line, answered_line, answered_part, answered_then, answered_stopped}
use Rattle.clothoid.proofs.reader.answer_chunk.Goals as goal

-- a line more of the chunk
cut_more : (chunk front rest line next : List ℕ) → chunk ≡ front ++ rest → rest ≡ line ++ 10 ∷ next → chunk ≡ (front ++ (line ++ 10 ∷ [])) ++ next
cut_more chunk front rest line next is cut = is ∙ ap (λ l. front ++ l) cut ∙ sym (append_assoc front (line ++ 10 ∷ []) next ∙ ap (λ l. front ++ l) (append_assoc line (10 ∷ []) next))

pub loop-line-preserved : goal.loop-line-preserved
loop-line-preserved g c =
    let front = c.loop-line.invariant.0 in
    let line = c.in-Some.line.now in
    let done = c.in_ok-line.ensures in
    let told = subst (λ l. LineDone l c.loop-line.session c.line-in-Some.new.self done.0) (same_line c.line.result c.add.new.self c.line.ensures.line) done.1 in
    let one = answered_line c.args.stop c.loop-line.pending c.add.new.self line c.loop-line.session c.line-in-Some.new.self (g.W.Write.contents c.loop-line.out) _ done.0 c.add.ensures.within c.in-Some.ensures.1 c.in_ok-add.ensures.ok (sym c.stops.ensures ∙ c.if-stops.false) told done.2 in (
      front ++ (line ++ 10 ∷ []),
      cut_more _ front c.loop-line.rest.now line c.in-Some.next.now c.loop-line.invariant.1 c.in-Some.ensures.0,
      rw c.clear.ensures (answered_then c.args.stop _ _ _ front (line ++ 10 ∷ []) _ _ _ _ _ _ c.loop-line.invariant.2 one),
    )

pub returns-then-stops-clause-lines : goal.returns-then-stops-clause-lines
returns-then-stops-clause-lines g c =
    let all = answered_stopped c.args.stop _ _ _ c.loop-line.invariant.0 c.loop-line.rest.now _ c.loop-line.pending _ _ (sym c.stops.ensures ∙ c.if-stops.true) c.loop-line.invariant.2 in
    rw c.loop-line.invariant.1 (all.text, all.done, all.written)

pub returns-clause-lines : goal.returns-clause-lines
returns-clause-lines g c =
    let last = answered_part c.args.stop c.loop-line.pending c.add-2.new.self c.loop-line.rest.now c.loop-line.session (g.W.Write.contents c.loop-line.out) c.add-2.ensures.within c.in_default.ensures c.in_ok-add-2.ensures.ok in
    let all = answered_then c.args.stop _ _ _ c.loop-line.invariant.0 c.loop-line.rest.now _ _ _ _ _ _ c.loop-line.invariant.2 last in
    rw c.loop-line.invariant.1 (all.text, all.done, all.written)

pub returns-clause-rest : goal.returns-clause-rest
returns-clause-rest g c =
    let last = answered_part c.args.stop c.loop-line.pending c.add-2.new.self c.loop-line.rest.now c.loop-line.session (g.W.Write.contents c.loop-line.out) c.add-2.ensures.within c.in_default.ensures c.in_ok-add-2.ensures.ok in
    let all = answered_then c.args.stop _ _ _ c.loop-line.invariant.0 c.loop-line.rest.now _ _ _ _ _ _ c.loop-line.invariant.2 last in
    rw c.loop-line.invariant.1 all.held
