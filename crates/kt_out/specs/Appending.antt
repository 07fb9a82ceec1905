-- The appending of a whole text to an output file, in as many appends as it takes.
-- The rules: docs/ARCHITECTURE.md, "The outside".
use Rattle.std.proofs.Common.{refl, sym, ap, ◌∙◌, append_assoc}
use Rattle.std.proofs.lemmas.List.{append-nil}
use Rattle.std.specs.Prelude.{◌≡◌, ◌≢◌, ℕ, List, [], ◌∷◌, ◌++◌, Option, None, Some, Result, Ok, Err, IsSomeAnd, unwrap_or}
use Rattle.kt_kept_files.specs.NamedFiles.{FileMap}

-- what a name stands for once a text was added: an empty text adds nothing, not even the name
abbrev pub lengthened : Option (List ℕ) → List ℕ → Option (List ℕ)
lengthened held [] = held
lengthened held (byte ∷ more) = Some (unwrap_or held [] ++ (byte ∷ more))

-- a text was added to what a name stands for, and every other name is as before
pub record Lengthens (files : FileMap) (name text : List ℕ) (now : FileMap) : Type 0 where
  pub this_name : now name ≡ lengthened (files name) text
  pub other_names : (other : List ℕ) → other ≢ name → now other ≡ files other

-- the same of output files, where they tell what they hold
abbrev pub AppendsText : Option FileMap → Option FileMap → List ℕ → List ℕ → Type 0
AppendsText None now name text = now ≡ None
AppendsText (Some files) now name text = IsSomeAnd now (Lengthens files name text)

-- some front of a text was added to what a name stands for
pub record AppendsFront (before now : Option FileMap) (name text : List ℕ) : Type 0 where
  pub front : List ℕ
  pub rest : List ℕ
  pub is_front : text ≡ front ++ rest
  pub added : AppendsText before now name front

-- what the appends of a whole text did: all of it is added, or after a refusal some front of it
abbrev pub AppendsAll : {T E : Type 0} → Option FileMap → Option FileMap → List ℕ → List ℕ → Result T E → Type 0
AppendsAll before now name text (Ok done) = AppendsText before now name text
AppendsAll before now name text (Err fault) = AppendsFront before now name text

-- ---- one text behind another

-- a name lengthened twice is lengthened by both texts
pub lengthened_twice : (held : Option (List ℕ)) (front back : List ℕ) → lengthened (lengthened held front) back ≡ lengthened held (front ++ back)
lengthened_twice held [] back = refl
lengthened_twice held (byte ∷ more) [] = ap (λ (text : List ℕ). lengthened held text) (sym (append-nil (byte ∷ more)))
lengthened_twice held (byte ∷ more) (next ∷ rest) = ap (λ (bytes : List ℕ). Some bytes) (append_assoc (unwrap_or held []) (byte ∷ more) (next ∷ rest))

-- where the name was held, the text stands behind what it stood for
pub lengthened_held : (bytes text : List ℕ) → lengthened (Some bytes) text ≡ Some (bytes ++ text)
lengthened_held bytes [] = ap (λ (whole : List ℕ). Some whole) (sym (append-nil bytes))
lengthened_held bytes (byte ∷ more) = refl

-- what is known is not unknown
some_is_none : (files : FileMap) → Some files ≡ None → ⊥
some_is_none files same = cc

-- files lengthened twice at one name are lengthened by both texts
pub lengthens_twice : (files between now : FileMap) (name front back : List ℕ) → Lengthens files name front between → Lengthens between name back now → Lengthens files name (front ++ back) now
lengthens_twice files between now name front back first second = record {
  this_name = second.this_name ∙ ap (λ (held : Option (List ℕ)). lengthened held back) first.this_name ∙ lengthened_twice (files name) front back;
  other_names = λ other differs. second.other_names other differs ∙ first.other_names other differs;
}

-- the same of output files that may not tell what they hold
pub appends_twice : (before between now : Option FileMap) (name front back : List ℕ) → AppendsText before between name front → AppendsText between now name back → AppendsText before now name (front ++ back)
appends_twice None None now name front back first second = second
appends_twice None (Some middle) now name front back first second = absurd (some_is_none middle first)
appends_twice (Some files) None now name front back first second = absurd first
appends_twice (Some files) (Some middle) None name front back first second = absurd second
appends_twice (Some files) (Some middle) (Some after) name front back first second = lengthens_twice files middle after name front back first second

-- nothing was added
pub appends_nothing : (files : Option FileMap) (name : List ℕ) → AppendsText files files name []
appends_nothing None name = refl
appends_nothing (Some files) name = record { this_name = refl; other_names = λ other differs. refl }
