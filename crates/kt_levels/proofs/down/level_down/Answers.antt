use Rattle.std.proofs.Common.{◌≡◌, ◌<◌, ◌∙◌, ℕ, List, length, slice_index, slice_index_or, ap, sym, subst, arith}
use Rattle.std.specs.List.{All}
use Rattle.std.proofs.lemmas.List.{length-map}
use Rattle.std.proofs.lemmas.Result.{on_ok_weaker}
use Rattle.kt_fmtree.specs.Placed.{no_node, node_at}
use Rattle.kt_lanes.specs.Lanes.{AreWide, column}
use Rattle.kt_levels.specs.Down.{ArePlaced, placed, placed_at}
use Rattle.kt_levels.proofs.SingleLemmas.{IsSingle, singles-given}
use Rattle.kt_levels.proofs.down.level_down.Goals as goal

pub are_single-requires : goal.are_single-requires
are_single-requires c = record { places = subst (All (λ place. place < length c.args.nodes.now)) (sym c.deref.ensures.value) c.requires.can.within }

pub starts_down-requires : goal.starts_down-requires
starts_down-requires c = record { within = c.requires.can.within }

pub returns-then-are_single-clause-room : goal.returns-then-are_single-clause-room
returns-then-are_single-clause-room c = on_ok_weaker c.starts_down.result (λ starts. c.requires.room) c.starts_down.ensures.value

pub returns-then-are_single-clause-given : goal.returns-then-are_single-clause-given
returns-then-are_single-clause-given c =
    let same = c.starts_down.ensures.lanes in
    on_ok_weaker c.starts_down.result (λ starts. record {
      count_is =
          ap length starts
          ∙ (length-map c.args.room.now.parts.places.items (λ (place : ℕ). (node_at c.args.nodes.now place).start) ∙ (c.requires.can.placed.count_is ∙ sym (ap length same)));
      wide = subst (AreWide c.args.width) (sym same) c.requires.can.placed.wide;
    })
    c.starts_down.ensures.value

pub returns-then-are_single-clause-value : goal.returns-then-are_single-clause-value
returns-then-are_single-clause-value c =
    let nodes = c.args.nodes.now in
    let below = c.args.below.now in
    let parts = c.args.room.now.parts in
    let places = parts.places.items in
    let now = c.starts_down.new.parts in
    let single : All (λ place. (node_at nodes place).width ≡ 1) places = subst (All (λ place. (node_at nodes place).width ≡ 1)) c.deref.ensures.value (c.are_single.ensures.single c.if-are_single.true) in
    let singles : (k : ℕ) → All (IsSingle nodes (column k below)) places = λ k i d inside.
    let can = c.requires.can.can (slice_index_or places i d) no_node (c.requires.can.within i d inside) in
    record { one = single i d inside; within = omega (arith, can.within, single i d inside, length-map below (λ (lane : List ℕ). slice_index lane k)) } in
    on_ok_weaker c.starts_down.result (λ starts k less.
    ap (λ (lanes : List (List ℕ)). placed now.places.items (column k lanes)) c.starts_down.ensures.lanes
    ∙ (ap (λ all. placed all (column k parts.lanes)) starts ∙ singles-given nodes (column k below) places (column k parts.lanes) (singles k) (c.requires.can.backed k less)))
    c.starts_down.ensures.value

pub returns-clause-given : goal.returns-clause-given
returns-clause-given c = subst (ArePlaced c.args.width) (sym c.swap.ensures.x_after) c.in_ok-level_by_unit.ensures.given

pub returns-clause-value : goal.returns-clause-value
returns-clause-value c = λ k less. ap (placed_at k) c.swap.ensures.x_after ∙ c.in_ok-level_by_unit.ensures.value k less
