-- Laws of lanes that stand behind others.
-- The rules: docs/FINANCIAL_MODULE.md, "Levels".
use Rattle.std.specs.Prelude.{◌≡◌, ℕ, ◌+◌, ◌<◌, List, [], ◌++◌, length, slice_index}
use Rattle.std.proofs.Common.{append_assoc, append-nil, sym, ap, subst, ◌∙◌}
use Rattle.std.proofs.lemmas.List.{length-append, map-append}
use Rattle.kt_lanes.specs.Lanes.{column, AreWide, AreLanes}
use Rattle.kt_lanes.specs.LaneLaws.{lanes-are, lanes-none, wide-both}
use Rattle.kt_lanes.specs.SideBySide.{AreBehind}

-- all are as wide
pub behind-wide : (width count : ℕ) (amounts : ℕ → List ℕ) (before now : List (List ℕ)) → AreWide width before → AreBehind width count amounts before now → AreWide width now
behind-wide width count amounts before now wide are = subst (AreWide width) (sym are.now_is) (wide-both width before are.more wide are.more_are.wide)

-- the same amounts otherwise
pub behind-are : (width count other : ℕ) (one same : ℕ → List ℕ) (before now : List (List ℕ)) → AreBehind width count one before now → count ≡ other → ((k : ℕ) → k < width → one k ≡ same k) → AreBehind width other same before now
behind-are width count other one same before now are counts agree = record { more = are.more; more_are = lanes-are width count other one same are.more are.more_are counts agree; now_is = are.now_is }

-- lanes that are put behind others
pub lanes-behind : (width count : ℕ) (amounts : ℕ → List ℕ) (lanes before now : List (List ℕ)) → AreLanes width count amounts lanes → now ≡ before ++ lanes → AreBehind width count amounts before now
lanes-behind width count amounts lanes before now are now_is = record { more = lanes; more_are = are; now_is = now_is }

-- no lanes
pub behind-none : (width : ℕ) (amounts : ℕ → List ℕ) (before : List (List ℕ)) → ((k : ℕ) → k < width → [] ≡ amounts k) → AreBehind width 0 amounts before before
behind-none width amounts before none = record { more = []; more_are = lanes-none width amounts none; now_is = sym (append-nil before) }

-- more lanes behind these
pub behind-more : (width count more : ℕ) (one next : ℕ → List ℕ) (before between now : List (List ℕ)) → AreBehind width count one before between → AreBehind width more next between now → AreBehind width (count + more) (λ k. one k ++ next k) before now
behind-more width count more one next before between now here there = record {
  more = here.more ++ there.more;
  more_are = record {
    count_is = length-append here.more there.more ∙ (ap (λ n. n + length there.more) here.more_are.count_is ∙ ap (λ n. count + n) there.more_are.count_is);
    wide = wide-both width here.more there.more here.more_are.wide there.more_are.wide;
    each = λ k below.
        map-append (λ (lane : List ℕ). slice_index lane k) here.more there.more
        ∙ (ap (λ front. front ++ column k there.more) (here.more_are.each k below) ∙ ap (λ back. one k ++ back) (there.more_are.each k below));
  };
  now_is = there.now_is ∙ (ap (λ lanes. lanes ++ there.more) here.now_is ∙ append_assoc before here.more there.more);
}

-- what units have at one sidx then
pub behind-column : (width count : ℕ) (amounts : ℕ → List ℕ) (before now : List (List ℕ)) → AreBehind width count amounts before now → (k : ℕ) → k < width → column k now ≡ column k before ++ amounts k
behind-column width count amounts before now are k below =
    ap (column k) are.now_is
    ∙ (map-append (λ (lane : List ℕ). slice_index lane k) before are.more ∙ ap (λ back. column k before ++ back) (are.more_are.each k below))

-- behind none they are all
pub behind-all : (width count : ℕ) (amounts : ℕ → List ℕ) (before now : List (List ℕ)) → before ≡ [] → AreBehind width count amounts before now → AreLanes width count amounts now
behind-all width count amounts before now none are = subst (AreLanes width count amounts) (sym (are.now_is ∙ ap (λ front. front ++ are.more) none)) are.more_are
