-- Lanes are made one by one, and gathered one by one.
use Rattle.std.proofs.Common.{◌≡◌, ℕ, ◌+◌, ◌*◌, ◌<◌, ◌≤◌, ◌≢◌, Bool, true, false, List, [], ◌∷◌, ◌++◌, Option, Some, None, Global, length, get_or, take, refl, sym, ap, subst, ◌∙◌, inl, inr, ⊎_elim, append_assoc, append-nil, length-append, zero-le, arith}
use Rattle.std.proofs.lemmas.Bool.{cases_lt}
use Rattle.std.proofs.lemmas.List.{get_or_append_left, get_or_push, length_push, map-append, flat_map_more, nil_from_length, take_at}
use Rattle.rtrb.specs.Ring.{received, sent, IsPair}
use Rattle.rtrb.specs.declared.AnyItems.{AnyItems}
use Rattle.rtrb.specs.declared.consumer.Consumer.{Consumer}
use Rattle.kt_claims.specs.Arrivals.{IsIn, AreStrange, AreSent, FitsSlot, HoldsAll, HasCome, IsHeld, all_received, numbers_of}
use Rattle.kt_part.specs.Claimed.{HasClaimed}
use Rattle.kt_part.specs.Gathering.{AreGathered, AreHeld}
use Rattle.kt_part.specs.Lanes.{AreLanes, ArePaired, AreSame, HaveWorked, IsDone, IsReady}
use Rattle.kt_claims.specs.Numbers.{once_below, AreFirst, times}
use Rattle.kt_claims.specs.Passes.{IsGivenOut, IsPassOf, claims_of, left_of, workers_of}
use Rattle.kt_claims.specs.Slots.{held_at, next_of}
use Rattle.kt_claims.specs.declared.inbox.Arm.{Arm}
use Rattle.kt_claims.specs.declared.inbox.Inbox.{Inbox}
use Rattle.kt_claims.specs.declared.inbox.Item.{Item}
use Rattle.kt_claims.specs.declared.claims.Claims.{Claims}
use Rattle.kt_claims.specs.declared.claims.Pass.{Pass}
use Rattle.kt_claims.specs.declared.reorder.Reorder.{Reorder}
use Rattle.kt_part.proofs.LaneLemmas.{pair-kept}
use Rattle.kt_part.proofs.ListLemmas.{all-pushed, all-front, all-last}
use Rattle.kt_claims.proofs.NumberLemmas.{at-yes, at-no, times-append, once-yes, once-no, once-below}

abbrev End : Type 0 → Type 0
End B = Consumer (Item B) Global AnyItems

module _ {B : Type 0} where
  -- nothing has come into empty slots
  pub nothing-come : (inbox : Inbox B) → next_of inbox.reorder ≡ 0 → inbox.is_spoiled ≡ false → ((number : ℕ) → held_at inbox.reorder number ≡ None) → (came : List (Item B)) → came ≡ [] → HasCome inbox came
  nothing-come inbox none fine empty came is = record {
    none_taken = none;
    holds = subst (λ (b : Bool). HoldsAll (held_at inbox.reorder) b came) (sym fine) (λ number small. subst (λ (s : Option (Option B)). FitsSlot number s came) (sym (empty number)) (ap (λ (l : List (Item B)). times number (numbers_of l)) is));
  }

  -- what is held for the next number
  pub next-held : (made : Option B → Type 0) (reorder : Reorder (Option B)) (number : ℕ) (slot : Option (Option B)) → next_of reorder ≡ number → held_at reorder (next_of reorder) ≡ slot → IsHeld made (held_at reorder number) → IsHeld made slot
  next-held made reorder number slot next is held = subst (IsHeld made) (ap (held_at reorder) (sym next) ∙ is) held

  -- it was made for it
  pub next-made : (made : Option B → Type 0) (reorder : Reorder (Option B)) (number : ℕ) (held block : Option B) → next_of reorder ≡ number → held_at reorder (next_of reorder) ≡ Some held → held ≡ block → IsHeld made (held_at reorder number) → made block
  next-made made reorder number held block next is is' at = subst made is' (next-held made reorder number (Some held) next is at)

module _ {B : Type 0} where
  -- one more lane stands behind the others
  paired-pushed : (arms : List (Arm B)) (ends : List (End B)) (arm : Arm B) (end : End B) → ArePaired arms ends → IsPair arm.ring end → ArePaired (arms ++ arm ∷ []) (ends ++ end ∷ [])
  paired-pushed arms ends arm end paired pair = record {
    many = let many = paired.many in let one = length_push arms arm in let other = length_push ends end in omega arith;
    each = λ place default default' within. let many = paired.many in let more = length_push arms arm in ⊎_elim
        (λ (here : place < length arms).
        subst (λ (a : Arm B). IsPair a.ring (get_or (ends ++ end ∷ []) place default')) (sym (get_or_append_left arms (arm ∷ []) default place here))
        (subst (λ (e : End B). IsPair (get_or arms place default).ring e) (sym (get_or_append_left ends (end ∷ []) default' place (omega arith))) (paired.each place default default' here)))
        (λ (last : length arms ≤ place).
        subst (λ (a : Arm B). IsPair a.ring (get_or (ends ++ end ∷ []) place default')) (sym (get_or_push arms arm default place (omega arith)))
        (subst (λ (e : End B). IsPair arm.ring e) (sym (get_or_push ends end default' place (omega arith))) pair))
        (cases_lt place (length arms));
  }

  -- all lanes but the last
  paired-front : (arms : List (Arm B)) (ends : List (End B)) (arm : Arm B) (end : End B) → ArePaired (arms ++ arm ∷ []) (ends ++ end ∷ []) → ArePaired arms ends
  paired-front arms ends arm end paired = let one = length_push arms arm in let other = length_push ends end in let many' = paired.many in record {
    many = omega arith;
    each = λ place default default' within.
        subst (λ (a : Arm B). IsPair a.ring (get_or ends place default')) (get_or_append_left arms (arm ∷ []) default place within)
        (subst (λ (e : End B). IsPair (get_or (arms ++ arm ∷ []) place default).ring e) (get_or_append_left ends (end ∷ []) default' place (omega arith)) (paired.each place default default' (omega arith)));
  }

  -- the last lane
  paired-last : (arms : List (Arm B)) (ends : List (End B)) (arm : Arm B) (end : End B) → ArePaired (arms ++ arm ∷ []) (ends ++ end ∷ []) → IsPair arm.ring end
  paired-last arms ends arm end paired = let one = length_push arms arm in let other = length_push ends end in let many' = paired.many in
      subst (λ (a : Arm B). IsPair a.ring end) (get_or_push arms arm arm (length arms) refl)
      (subst (λ (e : End B). IsPair (get_or (arms ++ arm ∷ []) (length arms) arm).ring e) (get_or_push ends end end (length arms) (omega arith)) (paired.each (length arms) arm end (omega arith)))

  -- one more lane is made
  more-lanes : (claims : Claims) (workers : ℕ) (arms : List (Arm B)) (ends : List (End B)) (arm : Arm B) (end : End B) → AreLanes claims workers arms ends → IsReady claims arm → IsPair arm.ring end → received end ≡ []
      → AreLanes claims (workers + 1) (arms ++ arm ∷ []) (ends ++ end ∷ [])
  more-lanes claims workers arms ends arm end lanes ready pair empty = record {
    many = let many = lanes.many in let more = length_push arms arm in omega arith;
    ready = all-pushed (IsReady claims) arms arm lanes.ready ready;
    paired = paired-pushed arms ends arm end lanes.paired pair;
    empty = sym (flat_map_more received [] ends end) ∙ (ap (λ (l : List (Item B)). l ++ received end) lanes.empty ∙ empty);
  }

  -- and pushed behind the others
  pub made-more : (claims : Claims) (workers : ℕ) (arms arms' : List (Arm B)) (ends ends' : List (End B)) (arm : Arm B) (end : End B) → AreLanes claims workers arms ends → IsReady claims arm → IsPair arm.ring end → received end ≡ []
      → arms' ≡ arms ++ arm ∷ [] → ends' ≡ ends ++ end ∷ [] → AreLanes claims (workers + 1) arms' ends'
  made-more claims workers arms arms' ends ends' arm end lanes ready pair empty is is' =
      subst (λ (a : List (Arm B)). AreLanes claims (workers + 1) a ends') (sym is) (subst (λ (e : List (End B)). AreLanes claims (workers + 1) (arms ++ arm ∷ []) e) (sym is') (more-lanes claims workers arms ends arm end lanes ready pair empty))

  module _ (made : ℕ → Option B → Type 0) (bound : ℕ) where
    -- items that were sent in front of others
    sent-both : (one other : List (Item B)) → AreSent made bound one → AreSent made bound other → AreSent made bound (one ++ other)
    sent-both [] other are are' = are'
    sent-both (item ∷ one) other are are' = (are.0, are.1, sent-both one other are.2 are')

    -- no number from the bound on was sent
    sent-none : (number : ℕ) (items : List (Item B)) → AreSent made bound items → bound ≤ number → times number (numbers_of items) ≡ 0
    sent-none number [] are above = refl
    sent-none number (item ∷ items) are above = let below = are.0 in let isnt : item.number ≢ number = λ is. absurd (omega arith) in omega (arith, at-no item.number number isnt, sent-none number items are.2 above)

    -- what was sent was made
    sent-made : (one : Item B) (items : List (Item B)) → AreSent made bound items → IsIn one items → made one.number one.block
    sent-made one [] are is = absurd is
    sent-made one (item ∷ items) are is = ⊎_elim (λ (same : item ≡ one). subst (λ (i : Item B). made i.number i.block) same are.1) (λ (later : IsIn one items). sent-made one items are.2 later) is

    -- what a slot holds of what was sent was made
    slot-held : (number : ℕ) (slot : Option (Option B)) (items : List (Item B)) → AreSent made bound items → times number (numbers_of items) ≡ 1 → FitsSlot number slot items → IsHeld (made number) slot
    slot-held number None items are once fits = absurd (omega arith)
    slot-held number (Some block) items are once fits = sent-made (record { number = number; block = block }) items are fits.1

    module _ (claims : Claims) (workers : ℕ) where
      -- all workers have ended, and none is gathered
      all-ended : (arms now : List (Arm B)) (ends ends' : List (End B)) (pass : Pass) (inbox : Inbox B) → AreLanes claims workers arms ends → IsGivenOut claims workers workers pass
          → length now ≡ length arms → length ends' ≡ length ends → HaveWorked claims made bound arms now → AreSame ends ends' → HasCome inbox (all_received ends') → AreGathered made bound claims workers now ends' pass inbox 0
      all-ended arms now ends ends' pass inbox lanes given many many' worked same come = record {
        arms_left = let many'' = lanes.many in omega arith;
        done = λ place arm within. (worked place arm (omega arith)).done;
        paired = record {
          many = let many'' = lanes.paired.many in omega arith;
          each = λ place arm end within. let many'' = lanes.paired.many in pair-kept (get_or arms place arm).ring (get_or now place arm).ring (get_or ends place end) (get_or ends' place end) (lanes.paired.each place arm end (omega arith)) (worked place arm (omega arith)).ring (same place end (omega arith));
        };
        of = given.of;
        among = given.among;
        turns = let none = ap length given.none in let left = given.left in omega arith;
        settled = λ all number. subst (λ (l : List ℕ). times number l ≡ once_below (length l) number) (sym given.none) (sym (once-no 0 number zero-le));
        sent = [];
        items = tt;
        same = λ number below. ap (times number) given.none;
        come = subst (HasCome inbox) (sym (append-nil (all_received ends'))) come;
        reached = inl refl;
      }

      -- where nothing had come before, and the arms and lanes were lent as slices
      pub begun : (arms was now rest : List (Arm B)) (ends was' ends' rest' : List (End B)) (many many' : ℕ) (pass : Pass) (first inbox : Inbox B) → AreLanes claims workers arms ends → IsGivenOut claims workers workers pass
          → was ≡ arms → was' ≡ ends → length now ≡ length was → length ends' ≡ length was' → length now ≡ many → length ends' ≡ many'
          → HaveWorked claims made bound was now → AreSame was' ends' → (HasCome first (all_received was') → HasCome inbox (all_received ends'))
          → next_of first.reorder ≡ 0 → first.is_spoiled ≡ false → ((number : ℕ) → held_at first.reorder number ≡ None)
          → AreGathered made bound claims workers (take many (now ++ rest)) (take many' (ends' ++ rest')) pass inbox 0
      begun arms was now rest ends was' ends' rest' many many' pass first inbox lanes given is is' long long' len len' worked same comes none fine empty =
          let lent = subst (λ (a : List (Arm B)). AreLanes claims workers a was') (sym is) (subst (λ (e : List (End B)). AreLanes claims workers arms e) (sym is') lanes) in
          let come = comes (nothing-come first none fine empty (all_received was') lent.empty) in
          subst (λ (a : List (Arm B)). AreGathered made bound claims workers a (take many' (ends' ++ rest')) pass inbox 0) (sym (take_at now rest many len))
          (subst (λ (e : List (End B)). AreGathered made bound claims workers now e pass inbox 0) (sym (take_at ends' rest' many' len'))
          (all-ended was now was' ends' pass inbox lent given long long' worked same come))

      -- the last of the others is gathered
      one-gathered : (arms : List (Arm B)) (ends : List (End B)) (arm : Arm B) (end : End B) (pass pass' : Pass) (inbox inbox' : Inbox B) (gathered : ℕ)
          → AreGathered made bound claims workers (arms ++ arm ∷ []) (ends ++ end ∷ []) pass inbox gathered → IsPassOf claims pass' → claims_of pass' ≡ claims_of pass ++ claims_of arm.pass → left_of pass' ≡ left_of pass + left_of arm.pass
          → workers_of pass' ≡ workers_of pass → (length (claims_of pass') + left_of pass' ≡ 17 * workers_of pass' → AreFirst (claims_of pass'))
          → ((front back : List (Item B)) → HasCome inbox (front ++ (received end ++ back)) → HasCome inbox' (front ++ (sent arm.ring ++ back)))
          → AreGathered made bound claims workers arms ends pass' inbox' (gathered + 1)
      one-gathered arms ends arm end pass pass' inbox inbox' gathered are of joined left among settled comes =
          let done = all-last (IsDone claims made bound) arms arm are.done in
          let numbers = numbers_of (sent arm.ring) in record {
            arms_left = let left' = are.arms_left in let more = length_push arms arm in omega arith;
            done = all-front (IsDone claims made bound) arms arm are.done;
            paired = paired-front arms ends arm end are.paired;
            of = of;
            among = among ∙ are.among;
            turns = let was = are.turns in let one = done.turns in let longer = ap length joined in let both = length-append (claims_of pass) (claims_of arm.pass) in omega arith;
            settled = settled;
            sent = sent arm.ring ++ are.sent;
            items = sent-both (sent arm.ring) are.sent done.items are.items;
            same = λ number below.
                let was = are.same number below in
                let now : times number (claims_of pass') ≡ times number (claims_of pass ++ claims_of arm.pass) = ap (times number) joined in
                let both = times-append number (claims_of pass) (claims_of arm.pass) in
                let theirs : times number (claims_of arm.pass) ≡ times number (numbers ++ done.last ∷ []) = ap (times number) done.claimed in
                let parts = times-append number numbers (done.last ∷ []) in
                let reached = done.reached in
                let isnt : done.last ≢ number = λ is. absurd (omega arith) in
                let none = at-no done.last number isnt in
                let items : times number (numbers_of (sent arm.ring ++ are.sent)) ≡ times number (numbers ++ numbers_of are.sent) = ap (times number) (map-append (λ (i : Item B). i.number) (sent arm.ring) are.sent) in
                let parts' = times-append number numbers (numbers_of are.sent) in
                omega arith;
            come =
                let before : HasCome inbox (all_received ends ++ (received end ++ are.sent)) = subst (HasCome inbox) (ap (λ (l : List (Item B)). l ++ are.sent) (sym (flat_map_more received [] ends end)) ∙ append_assoc (all_received ends) (received end) are.sent) are.come in
                comes (all_received ends) are.sent before;
            reached = inr (
              done.last,
              done.reached,
              (
                  let now : times done.last (claims_of pass') ≡ times done.last (claims_of pass ++ claims_of arm.pass) = ap (times done.last) joined in
                  let both = times-append done.last (claims_of pass) (claims_of arm.pass) in
                  let theirs : times done.last (claims_of arm.pass) ≡ times done.last (numbers ++ done.last ∷ []) = ap (times done.last) done.claimed in
                  let parts = times-append done.last numbers (done.last ∷ []) in
                  let one = at-yes done.last done.last refl in omega arith
                  ),
            );
          }

      -- one more worker is gathered
      pub gathered-more : (arms₀ arms : List (Arm B)) (ends₀ ends : List (End B)) (arm : Arm B) (end : End B) (pass pass' : Pass) (inbox inbox' : Inbox B) (gathered : ℕ)
          → arms₀ ≡ arms ++ arm ∷ [] → ends₀ ≡ ends ++ end ∷ [] → AreGathered made bound claims workers arms₀ ends₀ pass inbox gathered → IsPassOf claims pass' → claims_of pass' ≡ claims_of pass ++ claims_of arm.pass → left_of pass' ≡ left_of pass + left_of arm.pass
          → workers_of pass' ≡ workers_of pass → (length (claims_of pass') + left_of pass' ≡ 17 * workers_of pass' → AreFirst (claims_of pass'))
          → ((front back : List (Item B)) → HasCome inbox (front ++ (received end ++ back)) → HasCome inbox' (front ++ (sent arm.ring ++ back)))
          → AreGathered made bound claims workers arms ends pass' inbox' (gathered + 1)
      gathered-more arms₀ arms ends₀ ends arm end pass pass' inbox inbox' gathered is is' are =
          let at = subst (λ (a : List (Arm B)). AreGathered made bound claims workers a ends₀ pass inbox gathered) is are in
          one-gathered arms ends arm end pass pass' inbox inbox' gathered (subst (λ (e : List (End B)). AreGathered made bound claims workers (arms ++ arm ∷ []) e pass inbox gathered) is' at)

      module _ (arms : List (Arm B)) (ends : List (End B)) (pass : Pass) (inbox : Inbox B) (real : 1 ≤ workers) (few : bound ≤ 16) (are : AreGathered made bound claims workers arms ends pass inbox workers) where
        -- each number below the bound was claimed exactly once
        claimed-once : (number : ℕ) → number < bound → times number (claims_of pass) ≡ 1
        claimed-once number below = ⊎_elim
            (λ (none : workers ≡ 0). absurd (omega arith))
            (λ (reached : (last : ℕ) × (bound ≤ last) × (1 ≤ times last (claims_of pass))).
            let all = are.settled (are.turns ∙ ap (λ (n : ℕ). 17 * n) (sym are.among)) in
            let above = reached.1 in
            let one : 1 ≤ once_below (length (claims_of pass)) reached.0 = subst (λ (n : ℕ). 1 ≤ n) (all reached.0) reached.2 in
            let within = once-below (length (claims_of pass)) reached.0 one in
            all number ∙ once-yes (length (claims_of pass)) number (omega arith))
            are.reached

        -- the pass has every draw again
        pub claimed-all : HasClaimed workers bound pass
        claimed-all = record { turns = are.turns; each = claimed-once }

        -- all that was sent has come
        all-come : HasCome inbox are.sent
        all-come = let none : ends ≡ [] = nil_from_length ends (let many = are.paired.many in let left = are.arms_left in omega arith) in
            subst (λ (l : List (End B)). HasCome inbox (all_received l ++ are.sent)) none are.come

        -- nothing that came is strange
        never-strange : AreStrange (numbers_of are.sent) → ⊥
        never-strange strange = ⊎_elim
            (λ (above : (16 ≤ strange.number) × (1 ≤ times strange.number (numbers_of are.sent))). let most = above.0 in let one = above.1 in
            let none = sent-none strange.number are.sent are.items (omega arith) in absurd (omega arith))
            (λ (twice : 2 ≤ times strange.number (numbers_of are.sent)). ⊎_elim
            (λ (below : strange.number < bound). let once = claimed-once strange.number below in let same = are.same strange.number below in absurd (omega arith))
            (λ (above : bound ≤ strange.number). let none = sent-none strange.number are.sent are.items above in absurd (omega arith))
            (cases_lt strange.number bound))
            strange.why

        -- so there was room for each item
        pub never-spoiled : inbox.is_spoiled ≡ true → ⊥
        never-spoiled spoiled = never-strange (subst (λ (b : Bool). HoldsAll (held_at inbox.reorder) b are.sent) spoiled all-come.holds)

        -- and what was made for each number below the bound is held
        pub all-held : inbox.is_spoiled ≡ false → AreHeld made bound inbox.reorder
        all-held fine = record {
          none_taken = all-come.none_taken;
          held = λ number below.
              let holds : HoldsAll (held_at inbox.reorder) false are.sent = subst (λ (b : Bool). HoldsAll (held_at inbox.reorder) b are.sent) fine all-come.holds in
              slot-held number (held_at inbox.reorder number) are.sent are.items (sym (are.same number below) ∙ claimed-once number below) (holds number (omega arith));
        }
