-- A programme that cedes losses, with the places of the ids that have the shares in a row.
-- The rule: docs/FINANCIAL_MODULE.md, "Reinsurance".
use Rattle.std.specs.Prelude.{◌≡◌, ℕ, ◌≤◌, ◌<◌, false, nat_eq, List, [], ◌∷◌, length, map, All, Option, Some, None, slice_index}
use Rattle.std.specs.List.{AllByRecursion, flat_map, list_any}
use Rattle.kt_rec.specs.Rising.{IsRising}
use Rattle.kt_stream.specs.declared.entry.LossRecord.{LossRecord}
use Rattle.kt_fmtree.specs.Tree.{Tree, beneath}
use Rattle.kt_fmtree.specs.Parts.{Parts, IsProgramme}
use Rattle.kt_levels.specs.Layers.{IsTopLayer, key_of}
use Rattle.kt_levels.specs.Shares.{layers_of}
use Rattle.kt_levels.specs.declared.layers.TopLayer.{TopLayer}
use Rattle.kt_ri.specs.declared.ceding.CedingProgramme.TheInside.{Inside}

-- the place of an id among some, where it is one of them
abbrev pub IsPlaceOf : List ℕ → ℕ → Option ℕ → Type 0
IsPlaceOf ids id None = list_any (nat_eq id) ids ≡ false
IsPlaceOf ids id (Some place) = (place < length ids) × (slice_index ids place ≡ id)

-- the places of the ids of records among some, record by record
abbrev pub AreRecordPlaces : List ℕ → List LossRecord → List (Option ℕ) → Type 0
AreRecordPlaces ids [] [] = Unit {0}
AreRecordPlaces ids (entry ∷ records) (place ∷ places) = IsPlaceOf ids entry.id place × AreRecordPlaces ids records places
AreRecordPlaces ids records places = ⊥

-- the ids that have the shares in a row: those beneath the top of each layer
abbrev pub owners_of : Tree → List ℕ
owners_of tree = flat_map (λ key. beneath tree key.0) (layers_of tree)

-- the layers are those of the programme's tops
pub record AreLayers (parts : Parts) (layers : List TopLayer) : Type 0 where
  pub keys_are : (tree : Tree) → IsProgramme tree parts → map key_of layers ≡ layers_of tree
  pub each : AllByRecursion (IsTopLayer parts) layers

-- the places are those of the ids that have the shares in a row
pub record ArePlaces (parts : Parts) (places : List ℕ) : Type 0 where
  pub within : All (λ place. place < length parts.ids) places
  pub owners_are : (tree : Tree) → IsProgramme tree parts → map (slice_index parts.ids) places ≡ owners_of tree

-- what an id cedes fits its type: the tops rise, and each has at most 50 layers
pub record HasFewLayers (parts : Parts) : Type 0 where
  pub tops_rise : IsRising parts.tops
  pub layers_few : AllByRecursion (λ layers. length layers ≤ 50) parts.layers

-- what is kept serves all runs
pub record IsCeding (parts : Parts) (layers : List TopLayer) (places : List ℕ) : Type 0 where
  pub layers_are : AreLayers parts layers
  pub places_are : ArePlaces parts places
  pub few : HasFewLayers parts

-- the programme of what is kept
abbrev pub programme_in : Inside → Parts
programme_in kept = kept.programme

abbrev pub IsKept : Inside → Type 0
IsKept kept = IsCeding kept.programme kept.layers.items kept.places.items
