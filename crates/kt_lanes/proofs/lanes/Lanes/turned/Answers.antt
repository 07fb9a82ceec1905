use Rattle.std.proofs.Common.{◌≡◌, ◌≤◌, ◌∙◌, ℕ, List, length, take, ap, subst, arith, rules}
use Rattle.kt_lanes.specs.Places.{AreTurning}
use Rattle.kt_lanes.proofs.PlaceLemmas.{turning-end}
use Rattle.kt_lanes.proofs.lanes.Lanes.turned.Goals as goal

pub returns : goal.returns
returns c =
    let places = c.args.places.items in
    let lanes = c.args.self in
    let turning = subst (λ (first : List ℕ). AreTurning first lanes (length first) c.turn.new.places c.turn.new.owners c.turn.new.lanes) c.deref_mut.ensures.value c.turn.ensures.turned in
    let few : length places ≤ length c.turn.new.lanes = omega (arith, c.requires.few, turning.lanes_many) in
    let count : c.len-count.result ≡ length places = search rules in
    record { value = c.truncate.ensures.value ∙ (ap (λ (n : ℕ). take n c.turn.new.lanes) count ∙ turning-end places lanes (length places) c.turn.new.places c.turn.new.owners c.turn.new.lanes (omega arith) few turning) }
