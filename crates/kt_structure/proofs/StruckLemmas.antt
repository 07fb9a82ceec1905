-- What is found along the ids that have losses is what the tree of the struck units has.
use Rattle.std.proofs.Common.{◌≡◌, ℕ, zero, suc, ◌+◌, ◌*◌, ◌^◌, ◌<◌, ◌≤◌, Bool, true, false, List, [], ◌∷◌, Option, None, Some, map, get_or, nat_eq, refl, sym, ap, subst, ◌∙◌, arith, map-id}
use Rattle.std.specs.Prelude.{◌&&◌, ◌||◌, is_some}
use Rattle.std.specs.Cmp.{nat_eq_equiv}
use Rattle.std.proofs.lemmas.Bool.{eqb-true}
use Rattle.std.specs.List.{AllByRecursion, filter, filter_map, list_any}
use Rattle.kt_keys.specs.Climbing.{after, climbed}
use Rattle.kt_rec.specs.Members.{filter-both, member-filter}
use Rattle.kt_fmtree.specs.Struck.{is_struck, struck, struck_children}
use Rattle.kt_fmtree.specs.StruckLaws.{climbed-struck, struck-id, struck-is}
use Rattle.kt_rec.specs.Rising.{IsRising, rising, rising-all, rising-member, rising-rises, rising-unique}
use Rattle.kt_rec.specs.Sums.{each_then}
use Rattle.kt_fmtree.specs.Tree.{Tree, beneath, comes_to, is_unit}
use Rattle.kt_rec.specs.RisingLaws.{rising-filter}
use Rattle.kt_structure.specs.Plan.{end_link, link_key, linked, links_up}
use Rattle.kt_structure.specs.Structure.{Fits, Kept, IsStructure}
use Rattle.kt_structure.specs.declared.links.Link.{Link}
use Rattle.kt_structure.proofs.FindLemmas.{each-filter, ends-of, linked-are}
use Rattle.kt_structure.proofs.LinkLemmas.{FitsBits, all-small, children-among, ends-small, reached-among, units-small}
use Rattle.kt_structure.proofs.RisingLemmas.{rising-among}

module _ (tree : Tree) (kept : Kept) (is : IsStructure tree kept) (ids : List ℕ) (fit : AllByRecursion (λ id. id < 2 ^ 32) ids) where
  -- the links from the ids up
  abbrev rows_up : List Link
  rows_up = links_up kept.next ids kept.top_level

  -- the links of the ids to their tops
  abbrev ends_up : List Link
  ends_up = filter_map (end_link kept.next kept.top_level) ids

  -- units that losses come to fit 32 bits
  next-small : (key : ℕ × ℕ) (unit : ℕ) → kept.next key ≡ Some unit → unit < 2 ^ 32
  next-small key unit to = is.small key unit (sym (ap (λ next. next key) is.next_is) ∙ to)

  rows-fit : AllByRecursion FitsBits rows_up
  rows-fit = all-small kept.next next-small ids fit kept.top_level

  -- ---- children

  module _ (links : List Link) (by_key : (key : ℕ) → filter (λ row. nat_eq (link_key row) key) links ≡ filter (λ row. nat_eq (link_key row) key) rows_up) where
    -- what they have for a unit of a level, in the order of the ids
    abbrev children_up : ℕ → ℕ → List ℕ
    children_up level unit = map (λ row. row.child) (filter (λ row. nat_eq row.level level && nat_eq row.unit unit) rows_up)

    linked-up : (level unit : ℕ) → unit < 2 ^ 32 → linked links level unit ≡ rising (children_up level unit)
    linked-up level unit small =
        linked-are (λ (row : Link). row) links rows_up (λ key. by_key key ∙ ap (filter (λ row. nat_eq (link_key row) key)) (sym (map-id rows_up)))
        (each_then _ (λ row. row.unit < 2 ^ 32) (λ row both. both.0) rows_up rows-fit) level unit small

    -- the children of a unit are those of the tree of struck units
    children-struck : (level unit : ℕ) → 1 ≤ level → level ≤ tree.top_level → unit < 2 ^ 32 → linked links level unit ≡ struck_children tree ids level unit
    children-struck zero unit least most small = absurd (omega arith)
    children-struck (suc level) unit least most small =
        linked-up (suc level) unit small
        ∙ rising-unique (rising (children_up (suc level) unit)) (struck_children tree ids (suc level) unit) (rising-rises (children_up (suc level) unit)) (rising-filter (is_struck tree ids level) (tree.children (suc level) unit) (is.children_rise (suc level) unit)) same
      where
        same : (child : ℕ) → list_any (nat_eq child) (rising (children_up (suc level) unit)) ≡ list_any (nat_eq child) (struck_children tree ids (suc level) unit)
        same child =
            rising-member (children_up (suc level) unit) child
            ∙ (children-among kept.next kept.top_level level unit child ids (omega (arith, is.top_level_is))
            ∙ (ap (λ next. list_any (λ id. is_unit child (climbed next level 1 id)) ids && is_unit unit (next (suc level, child))) is.next_is
            ∙ (ap (λ b. is_struck tree ids level child && b) (sym (is.is.children_are (suc level) unit child))
            ∙ sym (member-filter (is_struck tree ids level) child (tree.children (suc level) unit)))))

    -- they fit 32 bits
    kids-fit : (level unit : ℕ) → AllByRecursion (λ kid. kid < 2 ^ 32) (linked links level unit)
    kids-fit level unit =
        rising-all (λ kid. kid < 2 ^ 32) _ (subst (λ (found : List Link). AllByRecursion (λ kid. kid < 2 ^ 32) (map (λ row. row.child) found)) (sym (by_key (level * 2 ^ 32 + unit)))
        (each-filter (λ kid. kid < 2 ^ 32) (λ (row : Link). row.child) (λ row. nat_eq (link_key row) (level * 2 ^ 32 + unit)) rows_up (each_then _ (λ row. row.child < 2 ^ 32) (λ row both. both.1) rows_up rows-fit)))

  -- ---- ids and tops

  -- the ids that are taken are those of the tree of struck units
  pub ids-struck : rising (filter (λ id. is_some (kept.next (1, id))) ids) ≡ filter (is_struck tree ids 0) tree.ids
  ids-struck = rising-unique (rising (filter (λ id. is_some (kept.next (1, id))) ids)) (filter (is_struck tree ids 0) tree.ids) (rising-rises (filter (λ id. is_some (kept.next (1, id))) ids)) (rising-filter (is_struck tree ids 0) tree.ids is.ids_rise) same
    where
      named : (id : ℕ) (found : Option ℕ) → tree.next (1, id) ≡ found → (b : Bool) → list_any (nat_eq id) tree.ids ≡ b → is_some found ≡ b
      named id (Some unit) to true member = refl
      named id (Some unit) to false member =
          let there = is.is.ids_are id unit (ap (is_unit unit) to ∙ nat_eq_equiv.refl unit) in cc
      named id None to true member = absurd (is.taken id member to)
      named id None to false member = refl

      flip : (p q : Bool) → (p && q) ≡ (q && p)
      flip true true = refl
      flip true false = refl
      flip false true = refl
      flip false false = refl

      same : (id : ℕ) → list_any (nat_eq id) (rising (filter (λ id. is_some (kept.next (1, id))) ids)) ≡ list_any (nat_eq id) (filter (is_struck tree ids 0) tree.ids)
      same id =
          rising-member (filter (λ id. is_some (kept.next (1, id))) ids) id
          ∙ (member-filter (λ id. is_some (kept.next (1, id))) id ids
          ∙ (ap (λ next. is_some (next (1, id)) && list_any (nat_eq id) ids) is.next_is
          ∙ ((λ i. named id (tree.next (1, id)) refl (list_any (nat_eq id) tree.ids) refl i && sym (struck-id tree is.is ids id) i)
          ∙ (flip (list_any (nat_eq id) tree.ids) (is_struck tree ids 0 id)
          ∙ sym (member-filter (is_struck tree ids 0) id tree.ids)))))

  -- the tops that are reached are its tops
  pub tops-struck : rising (map (λ row. row.unit) ends_up) ≡ filter (is_struck tree ids tree.top_level) tree.tops
  tops-struck = rising-unique (rising (map (λ row. row.unit) ends_up)) (filter (is_struck tree ids tree.top_level) tree.tops) (rising-rises (map (λ row. row.unit) ends_up)) (rising-filter (is_struck tree ids tree.top_level) tree.tops is.tops_rise) same
    where
      is_top : (top : ℕ) (ids : List ℕ) → list_any (comes_to tree tree.top_level top) ids ≡ true → list_any (nat_eq top) tree.tops ≡ true
      is_top top [] none = cc
      is_top top (id ∷ ids) some = by (climbed tree.next tree.top_level 1 id) refl some (is_top top ids)
        where
          by : (found : Option ℕ) → climbed tree.next tree.top_level 1 id ≡ found → (is_unit top found || list_any (comes_to tree tree.top_level top) ids) ≡ true → (list_any (comes_to tree tree.top_level top) ids ≡ true → list_any (nat_eq top) tree.tops ≡ true) → list_any (nat_eq top) tree.tops ≡ true
          by None climbs some rest = rest some
          by (Some reached) climbs some rest = at (nat_eq reached top) refl some
            where
              at : (b : Bool) → nat_eq reached top ≡ b → (b || list_any (comes_to tree tree.top_level top) ids) ≡ true → list_any (nat_eq top) tree.tops ≡ true
              at true equal some = is.reached id top (climbs ∙ ap (λ n. Some n) (eqb-true reached top equal))
              at false equal some = rest some

      kept_top : (top : ℕ) (b : Bool) → is_struck tree ids tree.top_level top ≡ b → b ≡ (b && list_any (nat_eq top) tree.tops)
      kept_top top true here = sym (is_top top ids here)
      kept_top top false here = refl

      same : (top : ℕ) → list_any (nat_eq top) (rising (map (λ row. row.unit) ends_up)) ≡ list_any (nat_eq top) (filter (is_struck tree ids tree.top_level) tree.tops)
      same top =
          rising-member (map (λ row. row.unit) ends_up) top
          ∙ (reached-among kept.next kept.top_level top ids
          ∙ ((λ i. list_any (λ id. is_unit top (climbed (is.next_is i) (is.top_level_is i) 1 id)) ids)
          ∙ (kept_top top (is_struck tree ids tree.top_level top) refl
          ∙ sym (member-filter (is_struck tree ids tree.top_level) top tree.tops))))

  -- they fit 32 bits
  pub tops-fit : AllByRecursion (λ unit. unit < 2 ^ 32) (filter (is_struck tree ids tree.top_level) tree.tops)
  tops-fit =
      subst (AllByRecursion (λ unit. unit < 2 ^ 32)) tops-struck
      (rising-all (λ unit. unit < 2 ^ 32) _ (units-small ends_up (ends-small kept.next next-small kept.top_level ids fit)))

  -- ---- the lists

  -- the ids beneath each top
  beneath-made : (top : ℕ) → filter (λ id. is_unit top (climbed tree.next tree.top_level 1 id)) (filter (is_struck tree ids 0) tree.ids) ≡ beneath (struck tree ids) top
  beneath-made top =
      filter-both (is_struck tree ids 0) (comes_to tree tree.top_level top) (comes_to tree tree.top_level top) (λ id here. refl) tree.ids
      ∙ sym (filter-both (is_struck tree ids 0) (comes_to (struck tree ids) tree.top_level top) (comes_to tree tree.top_level top) (λ id here. ap (is_unit top) (climbed-struck tree is.is ids tree.top_level id (sym (struck-id tree is.is ids id) ∙ here))) tree.ids)

  -- an id that comes to a top is taken
  comes-taken : (top id : ℕ) → is_unit top (climbed kept.next kept.top_level 1 id) ≡ true → is_some (kept.next (1, id)) ≡ true
  comes-taken top id = from kept.top_level (omega (arith, is.top_level_is, is.is.levels))
    where
      first : (levels : ℕ) (found : Option ℕ) → is_unit top (after found (climbed kept.next levels 2)) ≡ true → is_some found ≡ true
      first levels None comes = comes
      first levels (Some unit) comes = refl

      from : (levels : ℕ) → 0 < levels → is_unit top (climbed kept.next levels 1 id) ≡ true → is_some (kept.next (1, id)) ≡ true
      from zero above comes = absurd (omega arith)
      from (suc levels) above comes = first levels (kept.next (1, id)) comes

  -- the ids that are linked to each top are those beneath it
  beneath-struck : (ends : List Link) → ((key : ℕ) → filter (λ row. nat_eq (link_key row) key) ends ≡ filter (λ row. nat_eq (link_key row) key) ends_up) → (top : ℕ) → linked ends 0 top ≡ beneath (struck tree ids) top
  beneath-struck ends by_key top =
      ap (λ found. rising (map (λ row. row.child) found)) (by_key (0 * 2 ^ 32 + top))
      ∙ (ap rising (ends-of (climbed kept.next kept.top_level 1) top ids)
      ∙ (rising-among (λ id. is_unit top (climbed kept.next kept.top_level 1 id)) (λ id. is_some (kept.next (1, id))) (comes-taken top) ids
      ∙ ((λ i. filter (λ id. is_unit top (climbed (is.next_is i) (is.top_level_is i) 1 id)) (ids-struck i)) ∙ beneath-made top)))

  -- what is found along the ids fits the tree of struck units
  pub struck-fits : (links : List Link) → ((key : ℕ) → filter (λ row. nat_eq (link_key row) key) links ≡ filter (λ row. nat_eq (link_key row) key) rows_up)
      → (ends : List Link) → ((key : ℕ) → filter (λ row. nat_eq (link_key row) key) ends ≡ filter (λ row. nat_eq (link_key row) key) ends_up)
      → (taken tops : List ℕ) → taken ≡ rising (filter (λ id. is_some (kept.next (1, id))) ids) → tops ≡ rising (map (λ row. row.unit) ends_up)
      → Fits (struck tree ids) kept links ends taken tops
  struck-fits links by_unit ends by_top taken tops taken_are tops_are =
      let tops_same = tops_are ∙ tops-struck in
      record {
        is = struck-is tree is.is ids;
        top_level_is = is.top_level_is;
        profiles_are = is.profiles_are;
        layer_profiles_are = is.layer_profiles_are;
        tivs_are = is.tivs_are;
        layers_are = is.layers_are;
        children_are = children-struck links by_unit;
        children_fit = kids-fit links by_unit;
        ids_are = taken_are ∙ ids-struck;
        ids_rise = subst IsRising (sym taken_are) (rising-rises (filter (λ id. is_some (kept.next (1, id))) ids));
        tops_are = tops_same;
        tops_fit = subst (AllByRecursion (λ unit. unit < 2 ^ 32)) (sym tops_same) tops-fit;
        beneath_are = beneath-struck ends by_top;
      }

  -- so does what is found along them in lists that are theirs
  pub struck-found : (rows links : List Link) → rows ≡ rows_up → ((key : ℕ) → filter (λ row. nat_eq (link_key row) key) links ≡ filter (λ row. nat_eq (link_key row) key) rows)
      → (up ends : List Link) → up ≡ ends_up → ((key : ℕ) → filter (λ row. nat_eq (link_key row) key) ends ≡ filter (λ row. nat_eq (link_key row) key) up)
      → (taken tops : List ℕ) → taken ≡ rising (filter (λ id. is_some (kept.next (1, id))) ids) → tops ≡ rising (map (λ row. row.unit) up)
      → Fits (struck tree ids) kept links ends taken tops
  struck-found rows links rows_are by_unit up ends up_is by_top taken tops taken_are tops_are =
      struck-fits links (λ key. by_unit key ∙ ap (filter (λ row. nat_eq (link_key row) key)) rows_are)
      ends (λ key. by_top key ∙ ap (filter (λ row. nat_eq (link_key row) key)) up_is)
      taken tops taken_are (tops_are ∙ ap (λ found. rising (map (λ (row : Link). row.unit) found)) up_is)

-- numbers that fit 32 bits at each place
pub fits-each : (xs : List ℕ) → ((i : ℕ) → get_or xs i 0 < 2 ^ 32) → AllByRecursion (λ x. x < 2 ^ 32) xs
fits-each [] fit = tt
fits-each (x ∷ xs) fit = (fit 0, fits-each xs (λ i. fit (suc i)))
