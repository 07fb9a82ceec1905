-- What is said where files are known.
use Rattle.std.proofs.Common.{Option, Some, None}
use Rattle.std.specs.Prelude.{IfSome}
use Rattle.kt_out.specs.NamedFiles.{FileMap}

-- what holds of all files
pub always : (held : Option FileMap) {P : FileMap → Type 0} → ((files : FileMap) → P files) → IfSome held P
always None p = tt
always (Some files) p = p files

-- one saying from another
pub if_known : (held : Option FileMap) {P Q : FileMap → Type 0} → ((files : FileMap) → P files → Q files) → IfSome held P → IfSome held Q
if_known None then p = tt
if_known (Some files) then p = then files p

-- one saying from two others
pub if_both : (held : Option FileMap) {P Q R : FileMap → Type 0} → ((files : FileMap) → P files → Q files → R files) → IfSome held P → IfSome held Q → IfSome held R
if_both None then p q = tt
if_both (Some files) then p q = then files p q
