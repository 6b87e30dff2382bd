use Rattle.std.proofs.Common.{rules, refl, inr, ◌≡◌, ◌<◌, ◌≤◌, ◌+◌, ℕ, List, ◌++◌, ◌∙◌, sym, ap, subst, append_assoc, append-nil, codes, drop, length, map}
use Rattle.std.specs.Prelude.{flat_map}
use Rattle.std.specs.Io.KnownBytes.{Appends}
use Rattle.std.proofs.KnownBytes.{Appends-trans}
use Rattle.std.proofs.lemmas.List.{at_drop_more, drop_all}
use Rattle.host_storage.specs.Output.{AppendsPart, Writes, account_of}
use Rattle.script_advice.specs.Advice.{piece_of, pieces, piece_bytes}
use Rattle.script_advice.specs.declared.advice.Piece.{Piece as CodePiece}
use Rattle.script_advice.proofs.Writings.{AppendsPart-after, AppendsPart-more, Writes-after, whole_of}
use Rattle.script_advice.proofs.refusal.write_advice.Goals as goal

pub returns-in_err-write-clause-either : goal.returns-in_err-write-clause-either
returns-in_err-write-clause-either g c =
    inr (AppendsPart-more _ _ (c.args.start.now) (flat_map (piece_bytes c.args.parts.now) (pieces c.args.advice) ++ codes "\n") c.in_err-write.ensures.err, c.in_err-write.ensures.failed)

-- a write failed at a piece
pub returns-in_err-write-2-clause-either : goal.returns-in_err-write-2-clause-either
returns-in_err-write-2-clause-either g c =
    let i = c.loop-piece.invariant in
    let all = c.args.advice.pieces in
    let advised : List CodePiece → List ℕ = λ ps. flat_map (piece_bytes c.args.parts.now) (map piece_of ps) in
    let word = c.of.result.now in
    let more : List ℕ = advised (drop (c.loop-piece.piece-index + 1) all) in
    let within : c.loop-piece.piece-index < length all = search rules in
    let next : advised (drop c.loop-piece.piece-index all) ≡ word ++ more = rw c.of.ensures (at_drop_more advised all c.loop-piece.piece-index _ within) in
    let is : i.done ++ (word ++ more) ≡ flat_map (piece_bytes c.args.parts.now) (pieces c.args.advice) = ap (λ l. i.done ++ l) (sym next) ∙ i.split in
    let old = g.W.Write.contents c.args.output.now.writer.now in
    let new = g.W.Write.contents c.write-in-loop-piece.new.self.writer.now in
    inr (
      subst (AppendsPart old new) (whole_of (c.args.start.now) i.done word more _ (codes "\n") is)
          (AppendsPart-more old new ((c.args.start.now ++ i.done) ++ word) (more ++ codes "\n")
          (AppendsPart-after old (g.W.Write.contents c.loop-piece.output.writer.now) new (c.args.start.now ++ i.done) word i.written c.in_err-write-2.ensures.err)),
      c.in_err-write-2.ensures.failed,
    )

-- a piece more is written
pub loop-piece-preserved : goal.loop-piece-preserved
loop-piece-preserved g c =
    let i = c.loop-piece.invariant in
    let all = c.args.advice.pieces in
    let advised : List CodePiece → List ℕ = λ ps. flat_map (piece_bytes c.args.parts.now) (map piece_of ps) in
    let word = c.of.result.now in
    let more : List ℕ = advised (drop (c.loop-piece.piece-index + 1) all) in
    let within : c.loop-piece.piece-index < length all = search rules in
    let next : advised (drop c.loop-piece.piece-index all) ≡ word ++ more = rw c.of.ensures (at_drop_more advised all c.loop-piece.piece-index _ within) in
    let old = g.W.Write.contents c.args.output.now.writer.now in
    let new = g.W.Write.contents c.write-in-loop-piece.new.self.writer.now in
    record {
      done = i.done ++ word;
      split = append_assoc i.done word more ∙ ap (λ l. i.done ++ l) (sym next) ∙ i.split;
      written = subst (Appends old new) (append_assoc (c.args.start.now) i.done word)
          (Appends-trans old (g.W.Write.contents c.loop-piece.output.writer.now) new (c.args.start.now ++ i.done) word i.written c.in_ok-write-2.ensures.ok);
      unfailed = c.in_ok-write-2.ensures.failed ∙ i.unfailed;
      same = c.write-in-loop-piece.ensures.same ∙ i.same;
      parts = refl;
    }

-- all pieces are written, and then the line's end
pub returns-clause-either : goal.returns-clause-either
returns-clause-either g c =
    let i = c.loop-piece.invariant in
    let past : length c.args.advice.pieces ≤ c.loop-piece.piece-index = search rules in
    let none = drop_all c.loop-piece.piece-index c.args.advice.pieces past in
    let advised : List CodePiece → List ℕ = λ ps. flat_map (piece_bytes c.args.parts.now) (map piece_of ps) in
    let whole : i.done ≡ flat_map (piece_bytes c.args.parts.now) (pieces c.args.advice) = sym (append-nil i.done) ∙ ap (λ l. i.done ++ advised l) (sym none) ∙ i.split in
    let old = account_of (g.W.Write.contents c.args.output.now.writer.now) c.args.output.now.has_failed in
    let new = account_of (g.W.Write.contents c.write-2.new.self.writer.now) c.write-2.new.self.has_failed in
    subst (Writes old new) (append_assoc (c.args.start.now) i.done (codes "\n") ∙ ap (λ l. c.args.start.now ++ (l ++ codes "\n")) whole)
    (Writes-after _ (g.W.Write.contents c.loop-piece.output.writer.now) _ _ c.loop-piece.output.has_failed _ (c.args.start.now ++ i.done) (codes "\n") i.written i.unfailed c.write-2.ensures.either)
