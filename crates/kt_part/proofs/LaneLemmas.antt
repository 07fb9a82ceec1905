-- What was taken out of all lanes, where one lane changes; lanes that stay the same ends.
use Rattle.std.proofs.Common.{◌≡◌, ℕ, zero, suc, ◌<◌, ◌≢◌, List, [], ◌∷◌, ◌++◌, length, get_or, set, take, drop, refl, sym, ap, subst, ◌∙◌, ⊎_elim, append_assoc, get_or-set_same, get_or-set_other, rules, arith}
use Rattle.std.proofs.lemmas.Bool.{cases_eq}
use Rattle.std.specs.List.{flat_map}
use Rattle.rtrb.specs.Ring.{received, IsPair, SameProducer, SameConsumer}
use Rattle.rtrb.specs.declared.consumer.Consumer.{Consumer}
use Rattle.rtrb.specs.declared.producer.Producer.{Producer}
use Rattle.kt_claims.specs.Arrivals.{all_received, HasCome}
use Rattle.kt_part.specs.Lanes.{AreSame}
use Rattle.kt_claims.specs.declared.inbox.Inbox.{Inbox}
use Rattle.kt_claims.specs.declared.inbox.Item.{Item}

module _ {A C : Type 0} (part : A → List C) where
  -- all parts are those before a place, the one at it, and those behind it
  pub around : (list : List A) (place : ℕ) (one : A) → place < length list → one ≡ get_or list place one → flat_map part list ≡ flat_map part (take place list) ++ (part one ++ flat_map part (drop (suc place) list))
  around [] place one within is = absurd (omega arith)
  around (first ∷ list) zero one within is = ap (λ (a : A). part a ++ flat_map part list) (sym is)
  around (first ∷ list) (suc place) one within is = ap (λ (l : List C). part first ++ l) (around list place one (omega arith) is) ∙ sym (append_assoc (part first) (flat_map part (take place list)) (part one ++ flat_map part (drop (suc place) list)))

  -- where another stands at the place, the others stay
  pub around-set : (list : List A) (place : ℕ) (now : A) → place < length list → flat_map part (set list place now) ≡ flat_map part (take place list) ++ (part now ++ flat_map part (drop (suc place) list))
  around-set [] place now within = absurd (omega arith)
  around-set (first ∷ list) zero now within = refl
  around-set (first ∷ list) (suc place) now within = ap (λ (l : List C). part first ++ l) (around-set list place now (omega arith)) ∙ sym (append_assoc (part first) (flat_map part (take place list)) (part now ++ flat_map part (drop (suc place) list)))

-- a lane that is the same as one that was the same
pub same-trans : {T A P : Type 0} (first second third : Consumer T A P) → SameConsumer first second → SameConsumer second third → SameConsumer first third
same-trans first second third one other = search rules

-- one lane changes, and is the same end as before
pub same-set : {T A P : Type 0} (before lanes : List (Consumer T A P)) (place : ℕ) (was now : Consumer T A P) → place < length lanes → was ≡ get_or lanes place was → AreSame before lanes → SameConsumer was now → AreSame before (set lanes place now)
same-set {T} {A} {P} before lanes place was now within is same change other lane small = ⊎_elim
    (λ (here : other ≡ place).
    let at : get_or (set lanes place now) other lane ≡ now = ap (λ (n : ℕ). get_or (set lanes place now) n lane) here ∙ get_or-set_same lanes place now lane within in
    let old : get_or lanes other lane ≡ was = ap (λ (n : ℕ). get_or lanes n lane) here ∙ sym (Rattle.std.proofs.lemmas.List.get_or_read lanes place was within is lane) in
    subst (λ (c : Consumer T A P). SameConsumer (get_or before other lane) c) (sym at) (same-trans (get_or before other lane) was now (subst (λ (c : Consumer T A P). SameConsumer (get_or before other lane) c) old (same other lane small)) change))
    (λ (apart : other ≢ place). subst (λ (c : Consumer T A P). SameConsumer (get_or before other lane) c) (sym (get_or-set_other lanes place other now lane apart)) (same other lane small))
    (cases_eq other place)

-- what comes out of one lane comes out of all
pub come-set : {B A P : Type 0} (before after : Inbox B) (lanes : List (Consumer (Item B) A P)) (place : ℕ) (was now : Consumer (Item B) A P) → place < length lanes → was ≡ get_or lanes place was
    → ((front back : List (Item B)) → HasCome before (front ++ (received was ++ back)) → HasCome after (front ++ (received now ++ back)))
    → HasCome before (all_received lanes) → HasCome after (all_received (set lanes place now))
come-set before after lanes place was now within is comes come =
    subst (HasCome after) (sym (around-set received lanes place now within)) (comes _ _ (subst (HasCome before) (around received lanes place was within is) come))

-- the ends of one ring stay its ends
pub pair-kept : {T A P : Type 0} (ring ring' : Producer T A P) (lane lane' : Consumer T A P) → IsPair ring lane → SameProducer ring ring' → SameConsumer lane lane' → IsPair ring' lane'
pair-kept ring ring' lane lane' pair one other = search rules
