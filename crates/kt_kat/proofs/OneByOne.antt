-- What comes of files one after the other.
use Rattle.std.proofs.Common.{◌≡◌, ℕ, ◌+◌, ◌<◌, Bool, true, false, List, [], ◌∷◌, ◌++◌, length, drop, Option, Some, None, Result, Ok, Err, refl, sym, ap, ◌∙◌, append_assoc, append-nil, subst, get_or, add-one, drop-cons, arith}
use Rattle.std.specs.Prelude.{IfSome, IsSomeAnd, map, nat_le, if◌then◌else◌}
use Rattle.std.specs.List.{flat_map}
use Rattle.kt_out.specs.NamedFiles.{File, FileMap}
use Rattle.kt_ends.specs.Ending.{GainedFront}
use Rattle.kt_ends.specs.Outcome.{Outcome}
use Rattle.kt_ends.specs.Stops.{stop_status}
use Rattle.kt_ends.specs.declared.status.Refusal.{Refusal}
use Rattle.kt_ends.specs.declared.status.Refusal.TheVariants as refusal
use Rattle.kt_ends.specs.declared.status.Status.{Status}
use Rattle.kt_ends.specs.declared.status.Status.TheVariants as status
use Rattle.kt_ends.specs.declared.tool_stop.ToolStop.{ToolStop}
use Rattle.kt_ends.specs.declared.tool_stop.ToolStop.TheVariants as stop
use Rattle.kt_loop.specs.InputFile.{IsSized, file_bytes}
use Rattle.kt_loop.specs.Outcome.{gives}
use Rattle.kt_loop.specs.Settling.{IsEnd}
use Rattle.kt_kat.specs.Files.{found_file, and_files, files_of, file_limit, then_status, then_text, one_then, file_by_file}
use Rattle.kt_kat.specs.Found.{AreFound}

-- ---- the files by their names

-- of names whose files were found, the first names a file, and the others were found
pub record NextFile (files : FileMap) (name : List ℕ) (later rest : List (List ℕ)) : Type 0 where
  pub bytes : List ℕ
  pub more : List (List ℕ)
  pub is : rest ≡ bytes ∷ more
  pub held : files name ≡ Some bytes
  pub found : files_of later files ≡ Ok more

found_is : (one other : List (List ℕ)) → ◌≡◌ {A = Result (List (List ℕ)) Refusal} (Ok one) (Ok other) → one ≡ other
found_is one other is = cc

pub next_file : (files : FileMap) (name : List ℕ) (later rest : List (List ℕ)) → files_of (name ∷ later) files ≡ Ok rest → NextFile files name later rest
next_file files name later rest is = by_held (files name) (files_of later files) refl refl is
  where
    by_found : (bytes : List ℕ) (held : files name ≡ Some bytes) (r : Result (List (List ℕ)) Refusal) → files_of later files ≡ r → and_files (Ok bytes) r ≡ Ok rest → NextFile files name later rest
    by_found bytes held (Ok more) e h = record { bytes = bytes; more = more; is = sym (found_is (bytes ∷ more) rest h); held = held; found = e }
    by_found bytes held (Err why) e h = cc

    by_size : (bytes : List ℕ) (held : files name ≡ Some bytes) (fits : Bool) (r : Result (List (List ℕ)) Refusal) → files_of later files ≡ r → and_files (if fits then Ok bytes else Err (refusal.TooLarge name)) r ≡ Ok rest → NextFile files name later rest
    by_size bytes held true r e h = by_found bytes held r e h
    by_size bytes held false r e h = cc

    by_held : (one : Option (List ℕ)) (r : Result (List (List ℕ)) Refusal) → files name ≡ one → files_of later files ≡ r → and_files (found_file name one) r ≡ Ok rest → NextFile files name later rest
    by_held None r held e h = cc
    by_held (Some bytes) r held e h = by_size bytes held (nat_le (length bytes) file_limit) r e h

-- the sizes of files that were found: that of the first, and those of the others
first_sized : (files : FileMap) (name : List ℕ) (later : List (List ℕ)) (size : ℕ) (sizes : List ℕ) → AreFound (name ∷ later) files (size ∷ sizes) → IsSomeAnd (files name) (λ bytes. size ≡ length bytes) × AreFound later files sizes
first_sized files name later size sizes all =
    let one = next_file files name later all.contents all.found in
    let same : size ∷ sizes ≡ length one.bytes ∷ map length one.more = all.sized ∙ ap (map length) one.is in
    (subst (λ (held : Option (List ℕ)). IsSomeAnd held (λ bytes. size ≡ length bytes)) (sym one.held) (head_is size (length one.bytes) sizes (map length one.more) same), record { contents = one.more; found = one.found; sized = tail_is size (length one.bytes) sizes (map length one.more) same })
  where
    head_is : (a b : ℕ) (more rest : List ℕ) → a ∷ more ≡ b ∷ rest → a ≡ b
    head_is a b more rest is = cc

    tail_is : (a b : ℕ) (more rest : List ℕ) → a ∷ more ≡ b ∷ rest → more ≡ rest
    tail_is a b more rest is = cc

pub sized_first : (held : Option FileMap) (name : List ℕ) (names later : List (List ℕ)) (size : ℕ) (sizes rest : List ℕ) → names ≡ name ∷ later → sizes ≡ size ∷ rest → IfSome held (λ files. AreFound names files sizes) → IsSized held name size
sized_first None name names later size sizes rest named sized all = tt
sized_first (Some files) name names later size sizes rest named sized all = (first_sized files name later size rest (subst (λ (s : List ℕ). AreFound (name ∷ later) files s) sized (subst (λ (n : List (List ℕ)). AreFound n files sizes) named all))).0

pub found_later : (held : Option FileMap) (name : List ℕ) (names later : List (List ℕ)) (size : ℕ) (sizes rest : List ℕ) → names ≡ name ∷ later → sizes ≡ size ∷ rest → IfSome held (λ files. AreFound names files sizes) → IfSome held (λ files. AreFound later files rest)
found_later None name names later size sizes rest named sized all = tt
found_later (Some files) name names later size sizes rest named sized all = (first_sized files name later size rest (subst (λ (s : List ℕ). AreFound (name ∷ later) files s) sized (subst (λ (n : List (List ℕ)). AreFound n files sizes) named all))).1

-- ---- one end behind another

-- an outcome behind a text
abbrev pub in_front : List ℕ → Outcome → Outcome
in_front text outcome = record { status = outcome.status; output = text ++ outcome.output; files = outcome.files }

-- what a text gains by another one behind it
gained_on : (before mid now : Option (List ℕ)) (text more : List ℕ) → IfSome before (λ taken. mid ≡ Some (taken ++ text)) → IfSome mid (λ taken. now ≡ Some (taken ++ more)) → IfSome before (λ taken. now ≡ Some (taken ++ (text ++ more)))
gained_on None mid now text more had gains = tt
gained_on (Some taken) mid now text more had gains =
    let told : now ≡ Some ((taken ++ text) ++ more) = subst (λ (o : Option (List ℕ)). IfSome o (λ was. now ≡ Some (was ++ more))) had gains in
    told ∙ ap (λ (xs : List ℕ). Some xs) (append_assoc taken text more)

front_on : (before mid now : Option (List ℕ)) (text more rest : List ℕ) → IfSome before (λ taken. mid ≡ Some (taken ++ text)) → IfSome mid (λ taken. GainedFront more taken now) → IfSome before (λ taken. GainedFront (text ++ (more ++ rest)) taken now)
front_on None mid now text more rest had gains = tt
front_on (Some taken) mid now text more rest had gains =
    let told : GainedFront more (taken ++ text) now = subst (λ (o : Option (List ℕ)). IfSome o (λ was. GainedFront more was now)) had gains in
    record {
      front = text ++ told.front;
      is_front = record { rest = told.is_front.rest ++ rest; is = ap (λ (xs : List ℕ). text ++ (xs ++ rest)) told.is_front.is ∙ ap (λ (xs : List ℕ). text ++ xs) (append_assoc told.front told.is_front.rest rest) ∙ sym (append_assoc text told.front (told.is_front.rest ++ rest)) };
      gained = told.gained ∙ ap (λ (xs : List ℕ). Some xs) (append_assoc taken text told.front);
    }

-- the output of one outcome and another behind it begins with that of the one
abbrev rest_of : Status → List ℕ → List ℕ
rest_of status.Done next = next
rest_of end next = []

begins : (end : Status) (text next : List ℕ) → then_text end text next ≡ text ++ rest_of end next
begins status.Done text next = refl
begins (status.Words why) text next = sym (append-nil text)
begins (status.Refused why) text next = sym (append-nil text)
begins status.ReadFault text next = sym (append-nil text)
begins status.WriteFault text next = sym (append-nil text)
begins status.NoMemory text next = sym (append-nil text)

front_behind : (before mid now : Option (List ℕ)) (text : List ℕ) (one next : Outcome) → IfSome before (λ taken. mid ≡ Some (taken ++ text)) → IfSome mid (λ taken. GainedFront one.output taken now) → IfSome before (λ taken. GainedFront (text ++ (one_then one next).output) taken now)
front_behind before mid now text one next had gains =
    subst (λ (xs : List ℕ). IfSome before (λ taken. GainedFront (text ++ xs) taken now)) (sym (begins one.status one.output next.output)) (front_on before mid now text one.output (rest_of one.status next.output) had gains)

-- a file at which it ends
pub ended_in : (before mid now : Option (List ℕ)) (text : List ℕ) (one next : Outcome) (why : ToolStop) → IfSome before (λ taken. mid ≡ Some (taken ++ text)) → IsEnd one mid now (stop_status why) → IsEnd (in_front text (one_then one next)) before now (stop_status why)
ended_in before mid now text one next (stop.Refused why) had end = record {
  verdict = ap (λ (s : Status). then_status s next.status) end.verdict;
  output = subst (λ (s : Status). IfSome before (λ taken. now ≡ Some (taken ++ (text ++ then_text s one.output next.output)))) (sym end.verdict) (gained_on before mid now text one.output had end.output);
}
ended_in before mid now text one next stop.ReadFault had end = record { verdict = tt; output = front_behind before mid now text one next had end.output }
ended_in before mid now text one next stop.WriteFault had end = record { verdict = tt; output = front_behind before mid now text one next had end.output }
ended_in before mid now text one next stop.NoMemory had end = record { verdict = tt; output = front_behind before mid now text one next had end.output }

-- behind a file that is done comes what is behind it
done_then : (text : List ℕ) (one next : Outcome) → one.status ≡ status.Done → in_front text (one_then one next) ≡ in_front (text ++ one.output) (record { status = next.status; output = next.output; files = [] })
done_then text one next done =
    ap (λ (s : Status). in_front text (record { status = then_status s next.status; output = then_text s one.output next.output; files = [] })) done
    ∙ ap (λ (xs : List ℕ). record { status = next.status; output = xs; files = [] }) (sym (append_assoc text one.output next.output))

-- ---- all files

module _ {S : Type 0} (made : S → ℕ → List ℕ → Outcome) (next : S → List ℕ → S) where
  -- what is made of files makes no file
  pub no_files : (state : S) (number : ℕ) (contents : List (List ℕ)) → (file_by_file made next state number contents).files ≡ []
  no_files state number [] = refl
  no_files state number (bytes ∷ rest) = refl

  -- what is said of an outcome without files is said of its status and output
  bare : (outcome : Outcome) → outcome.files ≡ [] → record { status = outcome.status; output = outcome.output; files = [] } ≡ outcome
  bare outcome none = ap (λ (files : List File). record { status = outcome.status; output = outcome.output; files = files }) (sym none)

  -- So many files were done: what comes of all is their text, and behind it what comes of the others.
  pub record Joined (stands : S → Type 0) (files : FileMap) (start : S) (whole later : List (List ℕ)) (number : ℕ) (before now : Option (List ℕ)) : Type 0 where
    pub state : S
    pub at : stands state
    pub rest : List (List ℕ)
    pub found : files_of later files ≡ Ok rest
    pub text : List ℕ
    pub is : file_by_file made next start 1 whole ≡ in_front text (file_by_file made next state number rest)
    pub gained : IfSome before (λ taken. now ≡ Some (taken ++ text))

  -- the same, where the files are known
  abbrev pub AreJoined : (S → Type 0) → Option FileMap → S → List (List ℕ) → List (List ℕ) → ℕ → Option (List ℕ) → Option (List ℕ) → Type 0
  AreJoined stands held start names later number before now = IfSome held (λ files. (whole : List (List ℕ)) → files_of names files ≡ Ok whole → Joined stands files start whole later number before now)

  module _ (stands stands_now : S → Type 0) (files : FileMap) (start : S) (whole : List (List ℕ)) (name : List ℕ) (later : List (List ℕ)) (number : ℕ) (before mid now : Option (List ℕ)) (so : Joined stands files start whole (name ∷ later) number before mid) where
    one : NextFile files name later so.rest
    one = next_file files name later so.rest so.found

    of_file : (P : List ℕ → Type 0) → IfSome (files name) P → P one.bytes
    of_file P all = let told : IfSome (Some one.bytes) P = subst (λ (held : Option (List ℕ)). IfSome held P) one.held all in told

    made_on : file_by_file made next start 1 whole ≡ in_front so.text (one_then (made so.state number one.bytes) (file_by_file made next (next so.state one.bytes) (number + 1) one.more))
    made_on = so.is ∙ ap (λ (rest : List (List ℕ)). in_front so.text (file_by_file made next so.state number rest)) one.is

    more_joined : IfSome (files name) (λ bytes. IsEnd (made so.state number bytes) mid now status.Done) → IfSome (files name) (λ bytes. stands_now (next so.state bytes)) → Joined stands_now files start whole later (number + 1) before now
    more_joined ended stood =
        let end : IsEnd (made so.state number one.bytes) mid now status.Done = of_file (λ bytes. IsEnd (made so.state number bytes) mid now status.Done) ended in
        let behind : Outcome = file_by_file made next (next so.state one.bytes) (number + 1) one.more in
        record {
          state = next so.state one.bytes;
          at = of_file (λ bytes. stands_now (next so.state bytes)) stood;
          rest = one.more;
          found = one.found;
          text = so.text ++ (made so.state number one.bytes).output;
          is = made_on ∙ done_then so.text (made so.state number one.bytes) behind end.verdict ∙ ap (in_front (so.text ++ (made so.state number one.bytes).output)) (bare behind (no_files (next so.state one.bytes) (number + 1) one.more));
          gained = gained_on before mid now so.text (made so.state number one.bytes).output so.gained end.output;
        }

    stopped_at : (why : ToolStop) → IfSome (files name) (λ bytes. IsEnd (made so.state number bytes) mid now (stop_status why)) → IsEnd (file_by_file made next start 1 whole) before now (stop_status why)
    stopped_at why ended =
        subst (λ (outcome : Outcome). IsEnd outcome before now (stop_status why)) (sym made_on)
        (ended_in before mid now so.text (made so.state number one.bytes) (file_by_file made next (next so.state one.bytes) (number + 1) one.more) why so.gained (of_file (λ bytes. IsEnd (made so.state number bytes) mid now (stop_status why)) ended))

  module _ (stands stands_now : S → Type 0) (start : S) (names all : List (List ℕ)) (name : List ℕ) (later : List (List ℕ)) (number : ℕ) (before mid now : Option (List ℕ)) (named : all ≡ name ∷ later) where
    -- a file more is done
    pub joined_more : (held : Option FileMap) → AreJoined stands held start names all number before mid → ((state : S) → stands state → IfSome (file_bytes held name) (λ bytes. IsEnd (made state number bytes) mid now status.Done)) → ((state : S) → stands state → IfSome (file_bytes held name) (λ bytes. stands_now (next state bytes))) → AreJoined stands_now held start names later (number + 1) before now
    joined_more None joined ended stood = tt
    joined_more (Some files) joined ended stood = λ whole found.
        let so : Joined stands files start whole (name ∷ later) number before mid = subst (λ (n : List (List ℕ)). Joined stands files start whole n number before mid) named (joined whole found) in
        more_joined stands stands_now files start whole name later number before mid now so (ended so.state so.at) (stood so.state so.at)

    -- it ends at a file
    pub joined_until : (held : Option FileMap) (why : ToolStop) → AreJoined stands held start names all number before mid → ((state : S) → stands state → IfSome (file_bytes held name) (λ bytes. IsEnd (made state number bytes) mid now (stop_status why))) → IfSome held (λ files. (whole : List (List ℕ)) → files_of names files ≡ Ok whole → IsEnd (file_by_file made next start 1 whole) before now (stop_status why))
    joined_until None why joined ended = tt
    joined_until (Some files) why joined ended = λ whole found.
        let so : Joined stands files start whole (name ∷ later) number before mid = subst (λ (n : List (List ℕ)). Joined stands files start whole n number before mid) named (joined whole found) in
        stopped_at stands stands_now files start whole name later number before mid now so why (ended so.state so.at)

  -- all files are done
  all_done : (stands : S → Type 0) (files : FileMap) (start : S) (whole : List (List ℕ)) (number : ℕ) (before now : Option (List ℕ)) → Joined stands files start whole [] number before now → IsEnd (file_by_file made next start 1 whole) before now status.Done
  all_done stands files start whole number before now so =
      let none : so.rest ≡ [] = sym (found_is [] so.rest so.found) in
      let is : file_by_file made next start 1 whole ≡ in_front so.text (file_by_file made next so.state number []) = so.is ∙ ap (λ (rest : List (List ℕ)). in_front so.text (file_by_file made next so.state number rest)) none in
      subst (λ (outcome : Outcome). IsEnd outcome before now status.Done) (sym is) (record { verdict = refl; output = subst (λ (xs : List ℕ). IfSome before (λ taken. now ≡ Some (taken ++ xs))) (sym (append-nil so.text)) so.gained })

  pub joined_all : (stands : S → Type 0) (held : Option FileMap) (start : S) (names later : List (List ℕ)) (number : ℕ) (before now : Option (List ℕ)) → later ≡ [] → AreJoined stands held start names later number before now → IfSome held (λ files. (whole : List (List ℕ)) → files_of names files ≡ Ok whole → IsEnd (file_by_file made next start 1 whole) before now status.Done)
  joined_all stands None start names later number before now none joined = tt
  joined_all stands (Some files) start names later number before now none joined = λ whole found. all_done stands files start whole number before now (subst (λ (n : List (List ℕ)). Joined stands files start whole n number before now) none (joined whole found))

-- the number at a place, and the numbers behind it
pub size_at : (sizes : List ℕ) (n : ℕ) → n < length sizes → drop n sizes ≡ get_or sizes n 0 ∷ drop (n + 1) sizes
size_at sizes n here = rw add-one (drop-cons sizes n 0 here)

-- bytes one after the other
pub plain_all : (number : ℕ) (contents : List (List ℕ)) → file_by_file {S = Unit {0}} (λ state number bytes. gives status.Done bytes) (λ state bytes. state) tt number contents ≡ gives status.Done (flat_map (λ bytes. bytes) contents)
plain_all number [] = refl
plain_all number (bytes ∷ rest) = ap (one_then (gives status.Done bytes)) (plain_all (number + 1) rest)

-- the first of some numbers
pub first_size : (sizes : List ℕ) (first : ℕ) → 0 < length sizes → first ≡ get_or sizes 0 first → sizes ≡ first ∷ drop 1 sizes
first_size [] first some is = absurd (none some)
  where
    none : 0 < 0 → ⊥
    none some = omega (arith, some)
first_size (size ∷ sizes) first some is = ap (λ (n : ℕ). n ∷ sizes) (sym is)

-- where files are written as they are, all bytes are written
pub plain_ended : (held : Option FileMap) (names : List (List ℕ)) (before now : Option (List ℕ)) (end : Status) → IfSome held (λ files. (contents : List (List ℕ)) → files_of names files ≡ Ok contents → IsEnd (file_by_file {S = Unit {0}} (λ state number bytes. gives status.Done bytes) (λ state bytes. state) tt 1 contents) before now end) → IfSome held (λ files. (contents : List (List ℕ)) → files_of names files ≡ Ok contents → IsEnd (gives status.Done (flat_map (λ bytes. bytes) contents)) before now end)
plain_ended None names before now end ended = tt
plain_ended (Some files) names before now end ended = λ contents found. subst (λ (made : Outcome). IsEnd made before now end) (plain_all 1 contents) (ended contents found)
