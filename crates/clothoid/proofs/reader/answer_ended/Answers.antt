use Rattle.std.proofs.Common.{◌≡◌, ℕ, List, ◌++◌, ◌<◌, length, take, drop, sym, ◌∙◌, subst, arith}
use Rattle.std.specs.Io.KnownBytes.{Consumes}
use Rattle.std.proofs.lemmas.List.{length-take, length-append, length-drop}
use Rattle.std.proofs.Math.Seq.{take-append_seam}
use Rattle.clothoid.proofs.Reading.{AllOf, Answered, read_none, read_more, read_stopped, read_all, lines_of_all, held_of_all, answered_kept}
use Rattle.clothoid.proofs.reader.answer_ended.Given as given
use Rattle.clothoid.proofs.reader.answer_ended.Goals as goal

pub loop-init : goal.loop-init
loop-init g c = record {
  room = omega (arith, c.in_ok-buffer.ensures, c.in_ok-buffer.buffer.ok.0);
  read = read_none c.args.stop (g.R.Read.remaining c.args.reader.now) c.args.pending.now c.args.session.now (g.W.Write.contents c.args.out.now);
}

pub returns-then-stops-clause-lines : goal.returns-then-stops-clause-lines
returns-then-stops-clause-lines g c =
    lines_of_all c.args.stop (g.R.Read.remaining c.args.reader.now) _ _ _ _ _ _ (read_stopped c.args.stop (g.R.Read.remaining c.args.reader.now) c.args.pending.now c.args.session.now (g.W.Write.contents c.args.out.now) (g.R.Read.remaining c.loop.reader) c.loop.pending c.loop.session (g.W.Write.contents c.loop.out) (sym c.stops.ensures ∙ c.if-stops.true) c.loop.invariant.read)

pub returns-then-stops-clause-rest : goal.returns-then-stops-clause-rest
returns-then-stops-clause-rest g c =
    held_of_all c.args.stop (g.R.Read.remaining c.args.reader.now) _ _ _ _ _ _ (read_stopped c.args.stop (g.R.Read.remaining c.args.reader.now) c.args.pending.now c.args.session.now (g.W.Write.contents c.args.out.now) (g.R.Read.remaining c.loop.reader) c.loop.pending c.loop.session (g.W.Write.contents c.loop.out) (sym c.stops.ensures ∙ c.if-stops.true) c.loop.invariant.read)

at_end : (g : given.Over) (c : goal.After-drop-buffer-in-Ok-eq0 g) → AllOf c.args.stop (g.R.Read.remaining c.args.reader.now) c.args.pending.now c.args.session.now (g.W.Write.contents c.args.out.now) c.loop.pending c.loop.session (g.W.Write.contents c.loop.out)
at_end g c =
    let room : 0 < length c.read.new.buf = omega (arith, c.loop.invariant.room, c.read.auto.buf, c.as_mut_slice.ensures.len, c.loop.buffer.ok.0) in
    read_all c.args.stop (g.R.Read.remaining c.args.reader.now) c.args.pending.now c.args.session.now (g.W.Write.contents c.args.out.now) (g.R.Read.remaining c.loop.reader) (g.R.Read.remaining c.read.new.self) c.loop.pending c.loop.session (g.W.Write.contents c.loop.out) c.in-Ok-eq0.field-0 c.read.new.buf c.in-Ok-eq0.ensures.bytes c.in-Ok-eq0.field-0-test room c.loop.invariant.read

pub returns-in-Ok-eq0-clause-lines : goal.returns-in-Ok-eq0-clause-lines
returns-in-Ok-eq0-clause-lines g c = lines_of_all c.args.stop (g.R.Read.remaining c.args.reader.now) _ _ _ _ _ _ (at_end g c)

pub returns-in-Ok-eq0-clause-rest : goal.returns-in-Ok-eq0-clause-rest
returns-in-Ok-eq0-clause-rest g c = held_of_all c.args.stop (g.R.Read.remaining c.args.reader.now) _ _ _ _ _ _ (at_end g c)

-- what a slice of all the buffer holds, once it is written back
put_back : (len : ℕ) (now items : List ℕ) → length now ≡ length items → len ≡ length items → take len (now ++ drop (length now) items) ≡ now
put_back len now items same whole = rw (whole ∙ sym same) (take-append_seam now (drop (length now) items))

pub loop-preserved : goal.loop-preserved
loop-preserved g c =
    let taken = c.in-Ok.ensures.bytes in
    let lines = c.in_ok-answer_chunk.ensures.lines in
    let same : length c.read.new.buf ≡ length c.loop.buffer.items = omega (arith, c.read.auto.buf, c.as_mut_slice.ensures.len, c.loop.buffer.ok.0) in
    let cut : c.as_slice.result.now ≡ c.read.new.buf = c.as_slice.ensures.value ∙ put_back c.loop.buffer.len c.read.new.buf c.loop.buffer.items same (omega (arith, c.loop.buffer.ok.0)) in
    let half : Answered c.args.stop c.loop.pending c.loop.session (g.W.Write.contents c.loop.out) (take c.in-Ok.count c.as_slice.result.now) c.answer_chunk.new.pending c.answer_chunk.new.session (g.W.Write.contents c.answer_chunk.new.out) = record { text = lines.0; done = lines.1; written = lines.2; held = c.in_ok-answer_chunk.ensures.rest } in record {
      room = simp (length-take, length-append, length-drop) (omega (arith, c.read.auto.buf, c.loop.invariant.room, c.as_mut_slice.ensures.len, c.loop.buffer.ok.0));
      read = read_more c.args.stop (g.R.Read.remaining c.args.reader.now) c.args.pending.now c.args.session.now (g.W.Write.contents c.args.out.now) (g.R.Read.remaining c.loop.reader) c.loop.pending c.loop.session (g.W.Write.contents c.loop.out) (take c.in-Ok.count c.as_slice.result.now) (g.R.Read.remaining c.read.new.self) c.answer_chunk.new.pending c.answer_chunk.new.session (g.W.Write.contents c.flush.new.self) c.loop.invariant.read
          (subst (λ b. Consumes (g.R.Read.remaining c.loop.reader) (g.R.Read.remaining c.read.new.self) (take c.in-Ok.count b)) (sym cut) taken.0)
          (answered_kept c.args.stop c.loop.pending c.loop.session (g.W.Write.contents c.loop.out) (take c.in-Ok.count c.as_slice.result.now) c.answer_chunk.new.pending c.answer_chunk.new.session (g.W.Write.contents c.answer_chunk.new.out) (g.W.Write.contents c.flush.new.self) half c.flush.ensures.bytes);
    }
