use Rattle.std.proofs.Common.{◌∙◌, ap, map, slice_index_or}
use Rattle.std.proofs.lemmas.List.{take_all}
use Rattle.kt_rec.specs.declared.financial.FmProfile.{FmProfile}
use Rattle.kt_rules.specs.Profiles.{profile_of}
use Rattle.kt_rules.specs.declared.profile.Profile.{Profile}
use Rattle.kt_fmtree.specs.LoopLaws.{map-goes}
use Rattle.kt_structure.proofs.terms.id_pairs.Goals as goal

pub loop-row-init : goal.loop-row-init
loop-row-init c = c.in_ok-pairs.ensures.items

pub profile_of-requires : goal.profile_of-requires
profile_of-requires c = c.requires _ _ c.loop-row-test.true

pub loop-row-preserved : goal.loop-row-preserved
loop-row-preserved c =
    let none : FmProfile = record { policytc_id = 0; calcrule_id = 0; deductible1 = 0; deductible2 = 0; deductible3 = 0; attachment1 = 0; limit1 = 0; share1 = 0; share2 = 0; share3 = 0 } in
    map-goes (λ (row : FmProfile). (row.policytc_id, profile_of row)) c.args.profiles.now c.loop-row.row-index none c.loop-row.pairs.items _ _ c.loop-row-test.true c.loop-row.invariant c.in_ok-push.ensures.items
    (ap (λ (terms : Profile). ((slice_index_or c.args.profiles.now c.loop-row.row-index none).policytc_id, terms)) c.profile_of.ensures.value)

pub returns : goal.returns
returns c = record { value = c.loop-row.invariant ∙ ap (map (λ row. (row.policytc_id, profile_of row))) (take_all c.loop-row.row-index c.args.profiles.now c.loop-row-test.false) }
