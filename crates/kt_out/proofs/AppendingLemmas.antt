-- A text that is appended in parts.
use Rattle.std.proofs.Common.{◌≡◌, ℕ, zero, suc, ◌+◌, ◌<◌, ◌≤◌, List, [], ◌∷◌, ◌++◌, take, drop, length, Option, None, Some, Ok, Err, refl, sym, subst, ◌∙◌, arith}
use Rattle.std.specs.Prelude.{unwrap_or}
use Rattle.std.proofs.Math.Seq.{take-add}
use Rattle.std.proofs.lemmas.List.{append-nil}
use Rattle.kt_out.specs.Appending.{lengthened, AppendsText, appends_twice}
use Rattle.kt_kept_files.specs.NamedFiles.{FileMap}
use Rattle.kt_out.specs.OutputFiles.{Appends}
use Rattle.kt_out.specs.declared.fault.Fault.{Fault}

-- some bytes are added behind what stood, be the name held or not
some_added : (held : Option (List ℕ)) (bytes : List ℕ) (n : ℕ) → 0 < n → n ≤ length bytes → Some (unwrap_or held [] ++ take n bytes) ≡ lengthened held (take n bytes)
some_added held bytes zero some fits = absurd (omega (arith, some))
some_added held [] (suc n) some fits = absurd (omega (arith, fits))
some_added held (byte ∷ more) (suc n) some fits = refl

-- one append of some bytes is the appending of their text
pub one_append : (before now : Option FileMap) (name piece : List ℕ) (n : ℕ) → 0 < n → n ≤ length piece → Appends {E = Fault} before now name piece (Ok n) → AppendsText before now name (take n piece)
one_append None now name piece n some fits moved = moved
one_append (Some files) None name piece n some fits moved = moved
one_append (Some files) (Some after) name piece n some fits moved = record {
  this_name = moved.this_name ∙ some_added (files name) piece n some fits;
  other_names = moved.other_names;
}

-- an append that was refused adds nothing
pub no_append : {E : Type 0} (before now : Option FileMap) (name piece : List ℕ) (fault : E) → Appends before now name piece (Err fault) → AppendsText before now name []
no_append None now name piece fault moved = moved
no_append (Some files) None name piece fault moved = moved
no_append (Some files) (Some after) name piece fault moved = record { this_name = moved name; other_names = λ other differs. moved other }

-- an append behind the front that was added
pub appends_more : (before between now : Option FileMap) (name text : List ℕ) (done n : ℕ) → 0 < n → n ≤ length (drop done text) → AppendsText before between name (take done text) → Appends {E = Fault} between now name (drop done text) (Ok n) → AppendsText before now name (take (done + n) text)
appends_more before between now name text done n some fits added moved =
    subst (λ (front : List ℕ). AppendsText before now name front) (sym (take-add done n text))
    (appends_twice before between now name (take done text) (take n (drop done text)) added (one_append between now name (drop done text) n some fits moved))

-- an append that was refused behind it
pub appends_no_more : {E : Type 0} (before between now : Option FileMap) (name text piece : List ℕ) (fault : E) → AppendsText before between name text → Appends between now name piece (Err fault) → AppendsText before now name text
appends_no_more before between now name text piece fault added moved =
    subst (λ (front : List ℕ). AppendsText before now name front) (append-nil text)
    (appends_twice before between now name text [] added (no_append between now name piece fault moved))
