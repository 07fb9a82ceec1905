-- The losses of the items of a coverage side by side, and their records.
use Rattle.std.proofs.Common.{◌≡◌, ℕ, zero, suc, ◌+◌, ◌*◌, ◌<◌, ◌≤◌, Bool, true, false, not, cond, nat_eq, refl, subst, List, [], ◌∷◌, ◌++◌, length, take, drop, map, get_or, slice_index, sym, ap, arith, ◌∙◌, append-nil, append_assoc}
use Rattle.std.specs.List.{filter_map, flat_map, range_with_len}
use Rattle.std.proofs.lemmas.Bool.{le-ltb}
use Rattle.std.proofs.lemmas.List.{take_more, drop_more, length-take-le, take_at, drop_at, map-append}
use Rattle.std.proofs.lemmas.List.Concat.{flat_map-append}
use Rattle.std.proofs.lemmas.List.Elements.{filter_map-append}
use Rattle.std.proofs.lemmas.List.FromFn.{length-map-range_with_len, get_or-map-range_with_len}
use Rattle.std.proofs.lemmas.List.Sums.{sum_by_more, sum_by_more_le}
use Rattle.kt_money.specs.Sharing.{share_of}
use Rattle.kt_rec.specs.Rows.{Rows}
use Rattle.kt_rec.specs.declared.exposure.Item.{Item}
use Rattle.kt_checks.specs.TableChecks.{tiv_of}
use Rattle.kt_stream.specs.declared.entry.Cdf.{Cdf}
use Rattle.kt_stream.specs.declared.entry.LossRecord.{LossRecord}
use Rattle.kt_stream.specs.declared.entry.Pair.{Pair}
use Rattle.kt_gul.specs.declared.struck.StruckItem.{StruckItem}
use Rattle.kt_gul.specs.GroundUp.{item_tiv, raw_loss, coverage_total, total_before, cut_loss, final_loss, ground_up_loss, pairs_of, record_with, item_record}
use Rattle.kt_gul.specs.Coverage.{IsRow, IsGroup, group_total}
use Rattle.kt_gul.specs.Gathered.{AreAdded, ArePushed}
use Rattle.kt_gul.proofs.PairLemmas.{pairs_agree}

-- a list by a function of the place
pub row_from_map : (loss : ℕ → ℕ) (width : ℕ) (losses : List ℕ) → losses ≡ map loss (range_with_len 0 width) → IsRow loss width losses
row_from_map loss width losses are = record {
  width_is = ap length are ∙ length-map-range_with_len loss 0 width;
  each = λ place below. ap (λ losses. get_or losses place 0) are ∙ get_or-map-range_with_len loss 0 width place place 0 below (omega arith);
}

-- losses added to sums
row_sum : (sums loss both : ℕ → ℕ) (width : ℕ) (totals losses more : List ℕ) → IsRow sums width totals → IsRow loss width losses → IsRow (λ place. slice_index totals place + slice_index losses place) (length totals) more → ((place : ℕ) → both place ≡ sums place + loss place) → IsRow both width more
row_sum sums loss both width totals losses more are adds made is = record {
  width_is = made.width_is ∙ are.width_is;
  each = λ place below. omega (arith, made.each place (omega (arith, are.width_is)), are.each place below, adds.each place below, is place);
}

module _ (rows : Rows) (event : ℕ) (cdfs : List Cdf) (group : List StruckItem) where
  -- the total with one more item
  pub total_more : (place i : ℕ) (d : StruckItem) → i < length group → group_total rows event cdfs (take (i + 1) group) place ≡ group_total rows event cdfs (take i group) place + raw_loss rows event cdfs (get_or group i d).item place
  total_more place i d below = sum_by_more (λ struck. raw_loss rows event cdfs struck.item place) group i d below

  -- the total up to an item is at most that of all
  pub total_within : (place i : ℕ) (d : StruckItem) → i < length group → group_total rows event cdfs (take i group) place + raw_loss rows event cdfs (get_or group i d).item place ≤ group_total rows event cdfs group place
  total_within place i d below = sum_by_more_le (λ struck. raw_loss rows event cdfs struck.item place) group i d below

  -- one more item in the totals
  pub added_more : (width i : ℕ) (d : StruckItem) (row losses longer totals sums : List ℕ) → AreAdded rows event cdfs width (take i group) losses totals → i < length group → row ≡ map (raw_loss rows event cdfs (get_or group i d).item) (range_with_len 0 width) → ((place : ℕ) → place < width → raw_loss rows event cdfs (get_or group i d).item place ≤ 100200100000000) → longer ≡ losses ++ row → IsRow (λ place. slice_index totals place + slice_index row place) (length totals) sums → AreAdded rows event cdfs width (take (i + 1) group) longer sums
  added_more width i d row losses longer totals sums here below row_is most longer_is sums_are =
      let loss : StruckItem → List ℕ = λ struck. map (raw_loss rows event cdfs struck.item) (range_with_len 0 width) in
      let row_are = row_from_map (raw_loss rows event cdfs (get_or group i d).item) width row row_is in
      record {
        losses_are = longer_is ∙ (ap (λ losses. losses ++ row) here.losses_are ∙ (ap (λ row. flat_map loss (take i group) ++ row) (row_is ∙ sym (append-nil (loss (get_or group i d))))
            ∙ (sym (flat_map-append loss (take i group) (get_or group i d ∷ [])) ∙ ap (flat_map loss) (sym (take_more group i d below)))));
        totals_are = row_sum _ _ _ width totals row sums here.totals_are row_are sums_are (λ place. total_more place i d below);
        within = λ place inside. within place inside row_are;
      }
    where
      within : (place : ℕ) → place < width → IsRow (raw_loss rows event cdfs (get_or group i d).item) width row → group_total rows event cdfs (take (i + 1) group) place ≤ length (take (i + 1) group) * 100200100000000
      within place inside row_are =
          omega (arith, here.within place inside, most place inside, total_more place i d below, length-take-le i group (omega arith), length-take-le (i + 1) group (omega arith))

  -- the losses of an item stand in front of those of the later ones
  pub rest_parts : (width i : ℕ) (d : StruckItem) (rest : List ℕ) → rest ≡ flat_map (λ struck. map (raw_loss rows event cdfs struck.item) (range_with_len 0 width)) (drop i group) → i < length group → rest ≡ map (raw_loss rows event cdfs (get_or group i d).item) (range_with_len 0 width) ++ flat_map (λ struck. map (raw_loss rows event cdfs struck.item) (range_with_len 0 width)) (drop (i + 1) group)
  rest_parts width i d rest here below =
      here ∙ ap (flat_map (λ struck. map (raw_loss rows event cdfs struck.item) (range_with_len 0 width))) (drop_more group i d below)

  -- the losses of an item are those at the front
  pub row_front : (width i : ℕ) (d : StruckItem) (rest : List ℕ) → rest ≡ flat_map (λ struck. map (raw_loss rows event cdfs struck.item) (range_with_len 0 width)) (drop i group) → i < length group → IsRow (raw_loss rows event cdfs (get_or group i d).item) width (take width rest)
  row_front width i d rest here below =
      row_from_map _ width (take width rest) (ap (take width) (rest_parts width i d rest here below) ∙ take_at _ _ width (length-map-range_with_len (raw_loss rows event cdfs (get_or group i d).item) 0 width))

  -- and there are as many
  pub rest_long : (width i : ℕ) (d : StruckItem) (rest : List ℕ) → rest ≡ flat_map (λ struck. map (raw_loss rows event cdfs struck.item) (range_with_len 0 width)) (drop i group) → i < length group → width ≤ length rest
  rest_long width i d rest here below =
      let row = row_front width i d rest here below in
      omega (arith, row.width_is, length-take_le width rest)
    where
      length-take_le : (n : ℕ) (xs : List ℕ) → length (take n xs) ≤ length xs
      length-take_le zero xs = omega arith
      length-take_le (suc n) [] = omega arith
      length-take_le (suc n) (x ∷ xs) = omega (arith, length-take_le n xs)

  -- the losses of the later items
  pub rest_more : (width i : ℕ) (d : StruckItem) (rest later : List ℕ) → rest ≡ flat_map (λ struck. map (raw_loss rows event cdfs struck.item) (range_with_len 0 width)) (drop i group) → i < length group → later ≡ drop width rest → later ≡ flat_map (λ struck. map (raw_loss rows event cdfs struck.item) (range_with_len 0 width)) (drop (i + 1) group)
  rest_more width i d rest later here below later_is =
      later_is ∙ (ap (drop width) (rest_parts width i d rest here below) ∙ drop_at _ _ width (length-map-range_with_len (raw_loss rows event cdfs (get_or group i d).item) 0 width))

  -- with the totals before them
  pub pushed_more : (width i : ℕ) (d : StruckItem) (rest later before sums : List ℕ) → ArePushed rows event cdfs width group i rest before → i < length group → later ≡ drop width rest → IsRow (λ place. slice_index before place + slice_index (take width rest) place) (length before) sums → ArePushed rows event cdfs width group (i + 1) later sums
  pushed_more width i d rest later before sums here below later_is sums_are = record {
    rest_are = rest_more width i d rest later here.rest_are below later_is;
    before_are = row_sum _ _ _ width before (take width rest) sums here.before_are (row_front width i d rest here.rest_are below) sums_are (λ place. total_more place i d below);
  }

  -- where no total passes the insured value, the pairs of an item are those of its losses
  pub plain_pairs_are : (cut : Bool) (coverage samples i : ℕ) (d : StruckItem) (row : List ℕ) → IsGroup rows event cdfs coverage group → i < length group → (cut ≡ true → (place : ℕ) → 1 ≤ place → place < samples + 2 → group_total rows event cdfs group place ≤ tiv_of rows.coverages coverage) → IsRow (raw_loss rows event cdfs (get_or group i d).item) (samples + 2) row → pairs_of (λ place. slice_index row place) samples ≡ pairs_of (ground_up_loss rows cut event cdfs (get_or group i d).item) samples
  plain_pairs_are cut coverage samples i d row is below plain row_are =
      pairs_agree _ (ground_up_loss rows cut event cdfs (get_or group i d).item) samples (λ place inside.
      let item = (get_or group i d).item in
      let loss : Item → ℕ = λ other. raw_loss rows event cdfs other place in
      row_are.each place inside ∙ sym (kept cut (item_tiv rows item) (coverage_total loss rows.items item.coverage_id) (total_before loss rows.items item) (loss item) place
      (λ strikes later. subst (λ (c : ℕ). coverage_total loss rows.items c ≤ tiv_of rows.coverages c) (sym (is.together i d below)) (omega (arith, is.total_is place, plain strikes place later inside)))))
    where
      kept : (cut : Bool) (tiv total before loss place : ℕ) → (cut ≡ true → 1 ≤ place → total ≤ tiv) → final_loss cut tiv total before loss place ≡ loss
      kept false tiv total before loss place fits = refl
      kept true tiv total before loss zero fits = refl
      kept true tiv total before loss (suc place) fits = by (not (nat_eq (suc place) 0))
        where
          by : (b : Bool) → cond b (cut_loss tiv total before loss) loss ≡ loss
          by false = refl
          by true = ap (λ t. cond t (share_of tiv total before loss) loss) (le-ltb tiv total (fits refl (omega arith)))

  -- the pairs of an item by the totals of its coverage are those of its ground-up losses
  pub cut_pairs_are : (cut : Bool) (coverage samples i : ℕ) (d : StruckItem) (tiv : ℕ) (totals before row made : List ℕ) → IsGroup rows event cdfs coverage group → i < length group → tiv ≡ tiv_of rows.coverages coverage → IsRow (group_total rows event cdfs group) (samples + 2) totals → IsRow (group_total rows event cdfs (take i group)) (samples + 2) before → IsRow (raw_loss rows event cdfs (get_or group i d).item) (samples + 2) row → IsRow (λ place. final_loss cut tiv (slice_index totals place) (slice_index before place) (slice_index row place) place) (samples + 2) made → pairs_of (λ place. slice_index made place) samples ≡ pairs_of (ground_up_loss rows cut event cdfs (get_or group i d).item) samples
  cut_pairs_are cut coverage samples i d tiv totals before row made is below tiv_is totals_are before_are row_are made_are =
      pairs_agree _ (ground_up_loss rows cut event cdfs (get_or group i d).item) samples (λ place inside.
      let item = (get_or group i d).item in
      let of_coverage = is.together i d below in
      let value : tiv ≡ item_tiv rows item = tiv_is ∙ ap (tiv_of rows.coverages) (sym of_coverage) in
      let total : slice_index totals place ≡ coverage_total (λ row. raw_loss rows event cdfs row place) rows.items item.coverage_id = totals_are.each place inside ∙ (is.total_is place ∙ ap (coverage_total (λ row. raw_loss rows event cdfs row place) rows.items) (sym of_coverage)) in
      let earlier = before_are.each place inside ∙ is.before_is place i d below in
      made_are.each place inside ∙ same cut place _ _ _ _ _ _ _ _ value total earlier (row_are.each place inside))
    where
      same : (cut : Bool) (place a b c e x y z w : ℕ) → a ≡ x → b ≡ y → c ≡ z → e ≡ w → final_loss cut a b c e place ≡ final_loss cut x y z w place
      same cut place a b c e x y z w p q r s = ap (λ a. final_loss cut a b c e place) p ∙ (ap (λ b. final_loss cut x b c e place) q ∙ (ap (λ c. final_loss cut x y c e place) r ∙ ap (λ e. final_loss cut x y z e place) s))

  -- the pieces of the record of one more item
  pub pieces_more : {A : Type 0} (spelled : LossRecord → List A) (cut : Bool) (samples i : ℕ) (d : StruckItem) (pairs : List Pair) (first pieces longer : List A) → i < length group → pairs ≡ pairs_of (ground_up_loss rows cut event cdfs (get_or group i d).item) samples → pieces ≡ first ++ flat_map spelled (filter_map (item_record rows samples cut event cdfs) (map (λ struck. struck.item) (take i group))) → longer ≡ pieces ++ flat_map spelled (filter_map (record_with event (get_or group i d).item.item_id) (pairs ∷ [])) → longer ≡ first ++ flat_map spelled (filter_map (item_record rows samples cut event cdfs) (map (λ struck. struck.item) (take (i + 1) group)))
  pieces_more spelled cut samples i d pairs first pieces longer below pairs_are pieces_are longer_is =
      let made = item_record rows samples cut event cdfs in
      let item : StruckItem → Item = λ struck. struck.item in
      let done = map item (take i group) in
      let next = (get_or group i d).item ∷ [] in
      longer_is ∙ (ap (λ pairs. pieces ++ flat_map spelled (filter_map (record_with event (get_or group i d).item.item_id) (pairs ∷ []))) pairs_are
      ∙ (ap (λ pieces. pieces ++ flat_map spelled (filter_map made next)) pieces_are
      ∙ (append_assoc first (flat_map spelled (filter_map made done)) (flat_map spelled (filter_map made next))
      ∙ ap (λ more. first ++ more) (sym (flat_map-append spelled (filter_map made done) (filter_map made next)) ∙ ap (flat_map spelled) (sym (filter_map-append made done next) ∙ ap (filter_map made) (sym (map-append item (take i group) (get_or group i d ∷ [])) ∙ ap (map item) (sym (take_more group i d below))))))))
