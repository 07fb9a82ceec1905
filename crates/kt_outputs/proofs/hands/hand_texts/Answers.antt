use Rattle.std.proofs.Common.{map, sym, subst, ◌∙◌}
use Rattle.std.proofs.lemmas.List.Elements.{All-push}
use Rattle.std.specs.Prelude.{All}
use Rattle.kt_outputs.specs.Hands.{IsTextOf}
use Rattle.kt_outputs.specs.Texts.{text_of}
use Rattle.kt_outputs.proofs.HandLemmas.{wanted_at}
use Rattle.kt_outputs.proofs.hands.hand_texts.Goals as goal

pub loop-turn-preserved : goal.loop-turn-preserved
loop-turn-preserved g c start are =
    let more = text_of g.T.Texts.pieces_of start c.args.texts.now in
    let wanted = map more c.args.files.now in
    let own = wanted_at more c.args.files.now c.in-Some.place c.index-files-place.result c.in-Some.ensures.within c.index-files-place.is in
    subst (All (IsTextOf wanted)) (sym c.in_ok-push.ensures.items)
    (All-push (IsTextOf wanted) c.loop-turn.made.items _ (c.loop-turn.invariant start are) (c.in_ok-text.ensures.value start are ∙ sym own))
