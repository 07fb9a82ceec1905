-- Texts that are given to a sink in parts, while the rest is pending.
use Rattle.std.proofs.Common.{◌≡◌, ℕ, List, [], ◌++◌, take, drop, Option, Some, None, Err, refl, sym, ap, ◌∙◌, append_assoc, subst}
use Rattle.std.proofs.lemmas.List.{append-nil, take-append-drop}
use Rattle.kt_out.specs.Writing.{SinkState, Gains, GainsFront, WritesAll}
use Rattle.kt_out.specs.declared.fault.Fault.{Fault}
use Rattle.kt_out.specs.declared.fault.Fault.TheVariants.{Failed, OutOfMemory}
use Rattle.kt_ends.specs.Ending.{GainedFront}
use Rattle.kt_loop.specs.Given.{IsGiven, Given, GivenFront}

abbrev some_list : List ℕ → Option (List ℕ)
some_list xs = Some xs

-- nothing is given at first, and nothing is pending
pub given_none : (before : Option (List ℕ)) → Given before before [] []
given_none None = tt
given_none (Some taken) = record { front = []; whole = refl; gained = ap some_list (sym (append-nil taken)) }

-- what is appended is pending
pub given_more : (before now : Option (List ℕ)) (pending pending_now text more : List ℕ) → Given before now pending text → pending_now ≡ pending ++ more → Given before now pending_now (text ++ more)
given_more None now pending pending_now text more given appended = tt
given_more (Some taken) now pending pending_now text more given appended = record {
  front = given.front;
  whole = ap (λ (xs : List ℕ). xs ++ more) given.whole ∙ append_assoc given.front pending more ∙ ap (λ (xs : List ℕ). given.front ++ xs) (sym appended);
  gained = given.gained;
}

-- what is given is a front of the text
pub given_front : (before now : Option (List ℕ)) (pending text : List ℕ) → Given before now pending text → GivenFront before now text
given_front None now pending text given = tt
given_front (Some taken) now pending text given = record { front = given.front; is_front = record { rest = pending; is = given.whole }; gained = given.gained }

-- a front of a text is one of a longer text
pub front_longer : (before now : Option (List ℕ)) (text longer more : List ℕ) → GivenFront before now text → longer ≡ text ++ more → GivenFront before now longer
front_longer None now text longer more front is = tt
front_longer (Some taken) now text longer more front is = record {
  front = front.front;
  is_front = record { rest = front.is_front.rest ++ more; is = is ∙ ap (λ (xs : List ℕ). xs ++ more) front.is_front.is ∙ append_assoc front.front front.is_front.rest more };
  gained = front.gained;
}

module _ (taken pending text : List ℕ) (old now : Option (List ℕ)) (given : IsGiven taken old pending text) where
  gained_behind : (bytes : List ℕ) → Gains old now bytes → now ≡ Some (taken ++ (given.front ++ bytes))
  gained_behind bytes gained =
      let behind : Gains (Some (taken ++ given.front)) now bytes = subst (λ (o : Option (List ℕ)). Gains o now bytes) given.gained gained in
      behind ∙ ap some_list (append_assoc taken given.front bytes)

  all_given : Gains old now pending → IsGiven taken now [] text
  all_given gained = record { front = text; whole = sym (append-nil text); gained = gained_behind pending gained ∙ ap (λ (xs : List ℕ). Some (taken ++ xs)) (sym given.whole) }

  front_given : GainsFront old now pending → GainedFront text taken now
  front_given gained = record {
    front = given.front ++ take gained.length_taken pending;
    is_front = record {
      rest = drop gained.length_taken pending;
      is = given.whole ∙ ap (λ (xs : List ℕ). given.front ++ xs) (sym (take-append-drop gained.length_taken pending)) ∙ sym (append_assoc given.front (take gained.length_taken pending) (drop gained.length_taken pending));
    };
    gained = gained_behind (take gained.length_taken pending) gained.gained;
  }

given_some : (before old now : Option (List ℕ)) (pending text : List ℕ) → Given before old pending text → GainsFront old now pending → GivenFront before now text
given_some None old now pending text given gained = tt
given_some (Some taken) old now pending text given gained = front_given taken pending text old now given gained

-- a write of what was pending failed or found no memory
pub given_until : (T : Type 0) (before : Option (List ℕ)) (old new : SinkState) (pending text : List ℕ) (fault : Fault) → Given before old.taken pending text → WritesAll {T = T} old new pending (Err fault) → GivenFront before new.taken text
given_until T before old new pending text Failed given wrote = given_some before old.taken new.taken pending text given wrote.front
given_until T before old new pending text OutOfMemory given wrote = given_some before old.taken new.taken pending text given wrote.front
