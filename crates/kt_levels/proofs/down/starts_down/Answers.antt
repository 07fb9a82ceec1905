use Rattle.std.proofs.Common.{◌<◌, ◌∙◌, Vec, ℕ, Global, length, map, ap, refl, subst, sym}
use Rattle.std.specs.List.{All}
use Rattle.kt_fmtree.specs.Placed.{node_at}
use Rattle.kt_levels.proofs.down.starts_down.Goals as goal

pub place_starts-requires : goal.place_starts-requires
place_starts-requires c = record { places = subst (All (λ place. place < length c.args.nodes.now)) (sym c.deref.ensures.value) c.requires.within }

pub returns : goal.returns
returns c = record {
  lanes = refl;
  value =
      ap (λ (places : Vec ℕ Global). places.items) c.swap.ensures.x_after
      ∙ (c.in_ok-place_starts.ensures.value ∙ ap (map (λ place. (node_at c.args.nodes.now place).start)) c.deref.ensures.value);
}
