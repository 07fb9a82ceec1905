use Rattle.kt_fmtree.proofs.PlaceLemmas.{ArePlaced}
use Rattle.kt_fmtree.proofs.places.places_of.Given as goal

abbrev pub invariant-loop-id : goal.invariant-loop-id
invariant-loop-id l = ArePlaced l.ids l.wanted l.id-index l.places.items
