-- The links of some ids, level by level, and what they have for each unit.
use Rattle.std.proofs.Common.{◌≡◌, ℕ, zero, suc, ◌+◌, ◌^◌, ◌<◌, Bool, true, false, cond, ◌⊎◌, inl, inr, List, [], ◌∷◌, ◌++◌, Option, None, Some, map, nat_eq, refl, sym, ap, subst, ◌∙◌, arith, append-nil, append_assoc, get_or, length, take}
use Rattle.std.specs.Prelude.{◌&&◌, ◌||◌, option_map}
use Rattle.std.specs.Cmp.{nat_eq_equiv}
use Rattle.std.specs.List.{AllByRecursion, cons_option, filter, filter_map, list_any}
use Rattle.std.proofs.lemmas.Bool.{cases_eq, eqb-true}
use Rattle.std.proofs.lemmas.Bool.Decides.{nat_tests}
use Rattle.std.proofs.lemmas.List.{take_more}
use Rattle.std.proofs.lemmas.List.Elements.{filter_map-append}
use Rattle.std.proofs.lemmas.List.Folds.{list_any-append}
use Rattle.kt_keys.specs.Climbing.{climbed, after}
use Rattle.kt_fmtree.specs.Tree.{is_unit}
use Rattle.kt_fmtree.specs.TreeLaws.{climbed-last}
use Rattle.kt_structure.specs.Plan.{end_link, end_up, link_to, link_up, links_up}
use Rattle.kt_structure.specs.declared.links.Link.{Link}

-- ---- what may be made of an element, behind others

module _ {X Y : Type 0} where
  pub made-none : (f : X → Y) (found : Option X) (rows : List Y) → None ≡ found → rows ≡ rows ++ cons_option (option_map f found) []
  made-none f found rows none = sym (append-nil rows) ∙ ap (λ one. rows ++ cons_option (option_map f one) []) none

  pub made-some : (f : X → Y) (found : Option X) (x : X) (rows more : List Y) → Some x ≡ found → more ≡ rows ++ f x ∷ [] → more ≡ rows ++ cons_option (option_map f found) []
  made-some f found x rows more some more_is = more_is ∙ ap (λ one. rows ++ cons_option (option_map f one) []) some

  pub made-goes : (front : List Y) (f : X → Option Y) (xs : List X) (i : ℕ) (d : X) (rows more : List Y) → i < length xs → rows ≡ front ++ filter_map f (take i xs) → more ≡ rows ++ cons_option (f (get_or xs i d)) [] → more ≡ front ++ filter_map f (take (i + 1) xs)
  made-goes front f xs i d rows more inside rows_are more_is =
      more_is
      ∙ (ap (λ now. now ++ cons_option (f (get_or xs i d)) []) rows_are
      ∙ (append_assoc front (filter_map f (take i xs)) (cons_option (f (get_or xs i d)) [])
      ∙ ap (λ back. front ++ back) (sym (ap (filter_map f) (take_more xs i d inside) ∙ filter_map-append f (take i xs) (get_or xs i d ∷ [])))))

-- ---- a climb, level by level

module _ (next : ℕ × ℕ → Option ℕ) where
  -- before the first level each id is linked to itself
  pub climb-begins : (ids : List ℕ) → map (λ id. link_to 0 id id) ids ≡ filter_map (end_link next 0) ids
  climb-begins [] = refl
  climb-begins (id ∷ ids) = ap (λ rest. link_to 0 id id ∷ rest) (climb-begins ids)

  -- the links of ids one level up
  pub ends-go : (ids : List ℕ) (below : ℕ) (ends higher : List Link) → ends ≡ filter_map (end_link next below) ids → higher ≡ filter_map (end_up next (below + 1)) ends → higher ≡ filter_map (end_link next (below + 1)) ids
  ends-go ids below ends higher ends_are higher_is =
      higher_is ∙ ((λ i. filter_map (end_up next (one_up i)) (ends_are i)) ∙ (each ids ∙ ap (λ n. filter_map (end_link next n) ids) (sym one_up)))
    where
      one_up : below + 1 ≡ suc below
      one_up = omega arith

      other_way : 1 + below ≡ suc below
      other_way = omega arith

      each : (ids : List ℕ) → filter_map (end_up next (suc below)) (filter_map (end_link next below) ids) ≡ filter_map (end_link next (suc below)) ids
      each [] = refl
      each (id ∷ ids) = by (climbed next below 1 id) (climbed-last next below 1 id) (each ids)
        where
          by : (found : Option ℕ) → climbed next (suc below) 1 id ≡ after found (λ reached. next (1 + below, reached)) → filter_map (end_up next (suc below)) (filter_map (end_link next below) ids) ≡ filter_map (end_link next (suc below)) ids
              → filter_map (end_up next (suc below)) (cons_option (option_map (link_to 0 id) found) (filter_map (end_link next below) ids)) ≡ cons_option (option_map (link_to 0 id) (climbed next (suc below) 1 id)) (filter_map (end_link next (suc below)) ids)
          by None last rest = rest ∙ ap (λ one. cons_option (option_map (link_to 0 id) one) (filter_map (end_link next (suc below)) ids)) (sym last)
          by (Some unit) last rest =
              ap (cons_option (option_map (link_to 0 id) (next (suc below, unit)))) rest
              ∙ ap (λ one. cons_option (option_map (link_to 0 id) one) (filter_map (end_link next (suc below)) ids)) (sym (last ∙ ap (λ n. next (n, unit)) other_way))

  -- the links between units, with those of one level more
  pub links-go : (ids : List ℕ) (below : ℕ) (links more ends : List Link) → links ≡ links_up next ids below → ends ≡ filter_map (end_link next below) ids → more ≡ links ++ filter_map (link_up next (below + 1)) ends → more ≡ links_up next ids (below + 1)
  links-go ids below links more ends links_are ends_are more_is =
      let one_up : below + 1 ≡ suc below = omega arith in
      more_is ∙ ((λ i. links_are i ++ filter_map (link_up next (one_up i)) (ends_are i)) ∙ ap (links_up next ids) (sym one_up))

-- ---- which links ids have

-- a lower number is not a higher one
apart : (low high : ℕ) → low < high → nat_eq low high ≡ false
apart low high less = grind (arith, nat_tests)

-- nor the other way round
apart_back : (low high : ℕ) → low < high → nat_eq high low ≡ false
apart_back low high less = grind (arith, nat_tests)

pub or_none : (b : Bool) → (b || false) ≡ b
or_none true = refl
or_none false = refl

and_none : (b : Bool) → (b && false) ≡ false
and_none true = refl
and_none false = refl

-- whether a link is that of a child to a unit of a level
abbrev joins : ℕ → ℕ → ℕ → Link → Bool
joins level unit child row = (nat_eq row.level level && nat_eq row.unit unit) && nat_eq child row.child

module _ (next : ℕ × ℕ → Option ℕ) (unit child : ℕ) where
  -- the links of a level are none of another
  level-other : (level at : ℕ) → nat_eq level at ≡ false → (ends : List Link) → list_any (joins at unit child) (filter_map (link_up next level) ends) ≡ false
  level-other level at other [] = refl
  level-other level at other (end ∷ ends) = by (next (level, end.unit)) (level-other level at other ends)
    where
      by : (found : Option ℕ) → list_any (joins at unit child) (filter_map (link_up next level) ends) ≡ false → list_any (joins at unit child) (cons_option (option_map (link_to level end.unit) found) (filter_map (link_up next level) ends)) ≡ false
      by None rest = rest
      by (Some reached) rest = ap (λ b. ((b && nat_eq reached unit) && nat_eq child end.unit) || list_any (joins at unit child) (filter_map (link_up next level) ends)) other ∙ rest

  -- a link of a level is that of a unit that ids come to, to the next
  level-own : (level : ℕ) (ends : List Link) → list_any (joins level unit child) (filter_map (link_up next level) ends) ≡ (list_any (λ end. nat_eq end.unit child) ends && is_unit unit (next (level, child)))
  level-own level [] = refl
  level-own level (end ∷ ends) = by (next (level, end.unit)) refl (nat_eq end.unit child) refl (level-own level ends)
    where
      both : (r m : Bool) → (((true && r) && true) || (m && r)) ≡ r
      both true m = refl
      both false true = refl
      both false false = refl

      by : (found : Option ℕ) → next (level, end.unit) ≡ found → (same : Bool) → nat_eq end.unit child ≡ same
          → list_any (joins level unit child) (filter_map (link_up next level) ends) ≡ (list_any (λ (end : Link). nat_eq end.unit child) ends && is_unit unit (next (level, child)))
          → list_any (joins level unit child) (cons_option (option_map (link_to level end.unit) found) (filter_map (link_up next level) ends)) ≡ ((same || list_any (λ (end : Link). nat_eq end.unit child) ends) && is_unit unit (next (level, child)))
      by None is false same rest = rest
      by None is true same rest =
          let none : is_unit unit (next (level, child)) ≡ false = ap (λ c. is_unit unit (next (level, c))) (sym (eqb-true end.unit child same)) ∙ ap (is_unit unit) is in
          rest ∙ (ap (λ b. list_any (λ (end : Link). nat_eq end.unit child) ends && b) none ∙ (and_none (list_any (λ (end : Link). nat_eq end.unit child) ends) ∙ sym none))
      by (Some reached) is false same rest =
          let off : nat_eq child end.unit ≡ false = nat_eq_equiv.symm child end.unit ∙ same in
          ap (λ b. ((nat_eq level level && nat_eq reached unit) && b) || list_any (joins level unit child) (filter_map (link_up next level) ends)) off
          ∙ (ap (λ b. b || list_any (joins level unit child) (filter_map (link_up next level) ends)) (and_none (nat_eq level level && nat_eq reached unit)) ∙ rest)
      by (Some reached) is true same rest =
          let on : nat_eq child end.unit ≡ true = nat_eq_equiv.symm child end.unit ∙ same in
          let here : is_unit unit (next (level, child)) ≡ nat_eq reached unit = ap (λ c. is_unit unit (next (level, c))) (sym (eqb-true end.unit child same)) ∙ ap (is_unit unit) is in
          let later : list_any (joins level unit child) (filter_map (link_up next level) ends) ≡ (list_any (λ (end : Link). nat_eq end.unit child) ends && nat_eq reached unit) = rest ∙ ap (λ b. list_any (λ (end : Link). nat_eq end.unit child) ends && b) here in
          (λ i. ((nat_eq_equiv.refl level i && nat_eq reached unit) && on i) || later i)
          ∙ (both (nat_eq reached unit) (list_any (λ (end : Link). nat_eq end.unit child) ends) ∙ sym here)

  -- there are none above the last level
  links-lower : (ids : List ℕ) (levels at : ℕ) → levels < at → list_any (joins at unit child) (links_up next ids levels) ≡ false
  links-lower ids zero at above = refl
  links-lower ids (suc levels) at above =
      list_any-append (joins at unit child) (links_up next ids levels) (filter_map (link_up next (suc levels)) (filter_map (end_link next levels) ids))
      ∙ (λ i. links-lower ids levels at (omega arith) i || level-other (suc levels) at (apart (suc levels) at above) (filter_map (end_link next levels) ids) i)

  -- those of a level are the links of that level
  links-at : (ids : List ℕ) (levels high : ℕ) → high < levels → list_any (joins (suc high) unit child) (links_up next ids levels) ≡ (list_any (λ end. nat_eq end.unit child) (filter_map (end_link next high) ids) && is_unit unit (next (suc high, child)))
  links-at ids zero high below = absurd (omega arith)
  links-at ids (suc levels) high below =
      list_any-append (joins (suc high) unit child) (links_up next ids levels) (filter_map (link_up next (suc levels)) (filter_map (end_link next levels) ids))
      ∙ by (cases_eq high levels) (λ inside. links-at ids levels high inside)
    where
      by : (high ≡ levels) ⊎ (high ≡ levels → ⊥)
          → (high < levels → list_any (joins (suc high) unit child) (links_up next ids levels) ≡ (list_any (λ (end : Link). nat_eq end.unit child) (filter_map (end_link next high) ids) && is_unit unit (next (suc high, child))))
          → (list_any (joins (suc high) unit child) (links_up next ids levels) || list_any (joins (suc high) unit child) (filter_map (link_up next (suc levels)) (filter_map (end_link next levels) ids))) ≡ (list_any (λ (end : Link). nat_eq end.unit child) (filter_map (end_link next high) ids) && is_unit unit (next (suc high, child)))
      by (inl same) rest =
          subst (λ n. (list_any (joins (suc n) unit child) (links_up next ids levels) || list_any (joins (suc n) unit child) (filter_map (link_up next (suc levels)) (filter_map (end_link next levels) ids))) ≡ (list_any (λ (end : Link). nat_eq end.unit child) (filter_map (end_link next n) ids) && is_unit unit (next (suc n, child)))) (sym same)
          (λ i. links-lower ids levels (suc levels) (omega arith) i || level-own (suc levels) (filter_map (end_link next levels) ids) i)
      by (inr other) rest =
          (λ i. rest (omega arith) i || level-other (suc levels) (suc high) (apart_back (suc high) (suc levels) (omega arith)) (filter_map (end_link next levels) ids) i)
          ∙ or_none (list_any (λ (end : Link). nat_eq end.unit child) (filter_map (end_link next high) ids) && is_unit unit (next (suc high, child)))

  -- ids are linked to a unit where one of them comes to it
  ends-any : (levels : ℕ) (ids : List ℕ) → list_any (λ end. nat_eq end.unit child) (filter_map (end_link next levels) ids) ≡ list_any (λ id. is_unit child (climbed next levels 1 id)) ids
  ends-any levels [] = refl
  ends-any levels (id ∷ ids) = by (climbed next levels 1 id) (ends-any levels ids)
    where
      by : (found : Option ℕ) → list_any (λ (end : Link). nat_eq end.unit child) (filter_map (end_link next levels) ids) ≡ list_any (λ other. is_unit child (climbed next levels 1 other)) ids
          → list_any (λ (end : Link). nat_eq end.unit child) (cons_option (option_map (link_to 0 id) found) (filter_map (end_link next levels) ids)) ≡ (is_unit child found || list_any (λ other. is_unit child (climbed next levels 1 other)) ids)
      by None rest = rest
      by (Some reached) rest = ap (λ b. nat_eq reached child || b) rest

-- what is among those of rows that pass a test
any-taken : (test : Link → Bool) (child : ℕ) (rows : List Link) → list_any (nat_eq child) (map (λ row. row.child) (filter test rows)) ≡ list_any (λ row. test row && nat_eq child row.child) rows
any-taken test child [] = refl
any-taken test child (row ∷ rows) = by (test row) (any-taken test child rows)
  where
    by : (b : Bool) → list_any (nat_eq child) (map (λ x. x.child) (filter test rows)) ≡ list_any (λ x. test x && nat_eq child x.child) rows → list_any (nat_eq child) (map (λ x. x.child) (cond b (row ∷ filter test rows) (filter test rows))) ≡ ((b && nat_eq child row.child) || list_any (λ x. test x && nat_eq child x.child) rows)
    by true rest = ap (λ c. nat_eq child row.child || c) rest
    by false rest = rest

-- the children of a unit among the links of ids are those that the ids reach and that it has
pub children-among : (next : ℕ × ℕ → Option ℕ) (top high unit child : ℕ) (ids : List ℕ) → high < top → list_any (nat_eq child) (map (λ row. row.child) (filter (λ row. nat_eq row.level (suc high) && nat_eq row.unit unit) (links_up next ids top))) ≡ (list_any (λ id. is_unit child (climbed next high 1 id)) ids && is_unit unit (next (suc high, child)))
children-among next top high unit child ids below =
    any-taken (λ row. nat_eq row.level (suc high) && nat_eq row.unit unit) child (links_up next ids top)
    ∙ (links-at next unit child ids top high below ∙ ap (λ b. b && is_unit unit (next (suc high, child))) (ends-any next unit child high ids))

-- the tops that ids are linked to are those to which one of them comes
pub reached-among : (next : ℕ × ℕ → Option ℕ) (top unit : ℕ) (ids : List ℕ) → list_any (nat_eq unit) (map (λ row. row.unit) (filter_map (end_link next top) ids)) ≡ list_any (λ id. is_unit unit (climbed next top 1 id)) ids
reached-among next top unit [] = refl
reached-among next top unit (id ∷ ids) = by (climbed next top 1 id) (reached-among next top unit ids)
  where
    by : (found : Option ℕ) → list_any (nat_eq unit) (map (λ row. row.unit) (filter_map (end_link next top) ids)) ≡ list_any (λ other. is_unit unit (climbed next top 1 other)) ids
        → list_any (nat_eq unit) (map (λ row. row.unit) (cons_option (option_map (link_to 0 id) found) (filter_map (end_link next top) ids))) ≡ (is_unit unit found || list_any (λ other. is_unit unit (climbed next top 1 other)) ids)
    by None rest = rest
    by (Some reached) rest = λ i. nat_eq_equiv.symm unit reached i || rest i

-- ---- units that fit

-- what holds of two lists holds of one behind the other
pub both-hold : {X : Type 0} (P : X → Type 0) (xs ys : List X) → AllByRecursion P xs → AllByRecursion P ys → AllByRecursion P (xs ++ ys)
both-hold P [] ys all rest = rest
both-hold P (x ∷ xs) ys all rest = (all.0, both-hold P xs ys all.1 rest)

-- the unit and the child of a link fit 32 bits
abbrev pub FitsBits : Link → Type 0
FitsBits row = (row.unit < 2 ^ 32) × (row.child < 2 ^ 32)

-- so do the units of links
pub units-small : (rows : List Link) → AllByRecursion FitsBits rows → AllByRecursion (λ unit. unit < 2 ^ 32) (map (λ row. row.unit) rows)
units-small [] all = tt
units-small (row ∷ rows) all = (all.0.0, units-small rows all.1)

module _ (next : ℕ × ℕ → Option ℕ) (small : (key : ℕ × ℕ) (unit : ℕ) → next key ≡ Some unit → unit < 2 ^ 32) where
  -- what an id comes to fits, where the id does
  climbed-small : (levels id unit : ℕ) → id < 2 ^ 32 → climbed next levels 1 id ≡ Some unit → unit < 2 ^ 32
  climbed-small zero id unit fits is = let same : id ≡ unit = cc in omega arith
  climbed-small (suc levels) id unit fits is = last (climbed next levels 1 id) (sym (climbed-last next levels 1 id) ∙ is)
    where
      last : (found : Option ℕ) → after found (λ reached. next (1 + levels, reached)) ≡ Some unit → unit < 2 ^ 32
      last None is = cc
      last (Some reached) is = small (1 + levels, reached) unit is

  -- the links of ids to what they come to fit
  pub ends-small : (levels : ℕ) (ids : List ℕ) → AllByRecursion (λ id. id < 2 ^ 32) ids → AllByRecursion FitsBits (filter_map (end_link next levels) ids)
  ends-small levels [] fit = tt
  ends-small levels (id ∷ ids) fit = by (climbed next levels 1 id) refl (ends-small levels ids fit.1)
    where
      by : (found : Option ℕ) → climbed next levels 1 id ≡ found → AllByRecursion FitsBits (filter_map (end_link next levels) ids) → AllByRecursion FitsBits (cons_option (option_map (link_to 0 id) found) (filter_map (end_link next levels) ids))
      by None is rest = rest
      by (Some unit) is rest = ((climbed-small levels id unit fit.0 is, fit.0), rest)

  -- those of a level fit
  level-small : (level : ℕ) (ends : List Link) → AllByRecursion FitsBits ends → AllByRecursion FitsBits (filter_map (link_up next level) ends)
  level-small level [] all = tt
  level-small level (end ∷ ends) all = by (next (level, end.unit)) refl (level-small level ends all.1)
    where
      by : (found : Option ℕ) → next (level, end.unit) ≡ found → AllByRecursion FitsBits (filter_map (link_up next level) ends) → AllByRecursion FitsBits (cons_option (option_map (link_to level end.unit) found) (filter_map (link_up next level) ends))
      by None is rest = rest
      by (Some reached) is rest = ((small (level, end.unit) reached is, all.0.0), rest)

  -- and those of all levels
  pub all-small : (ids : List ℕ) → AllByRecursion (λ id. id < 2 ^ 32) ids → (levels : ℕ) → AllByRecursion FitsBits (links_up next ids levels)
  all-small ids fit zero = tt
  all-small ids fit (suc levels) =
      both-hold FitsBits (links_up next ids levels) (filter_map (link_up next (suc levels)) (filter_map (end_link next levels) ids)) (all-small ids fit levels) (level-small (suc levels) (filter_map (end_link next levels) ids) (ends-small levels ids fit))
