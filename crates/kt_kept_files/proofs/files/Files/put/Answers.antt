-- The changed list has distinct names, as the list before it has.
use Rattle.std.proofs.Common.{◌≡◌, slice_set, arith}
use Rattle.std.proofs.lemmas.Grind.{common_steps}
use Rattle.kt_kept_files.specs.NamedFiles.{with_file}
use Rattle.kt_kept_files.proofs.NamedFilesLemmas.{HaveDistinctNames-with_file, file_changes}
use Rattle.kt_kept_files.proofs.files.Files.put.Goals as goal

pub invariant_of-self : goal.invariant_of-self
invariant_of-self c =
    let files = c.self.inside.list.items in
    let changed : slice_set files c.in-Some.place c.replace.new.self ≡ with_file files c.args.name.now c.args.bytes.now =
    grind (arith, file_changes) in
    rw changed (HaveDistinctNames-with_file files _ _ c.self.invariant)

pub invariant_of-self-in-Continue-branch-3 : goal.invariant_of-self-in-Continue-branch-3
invariant_of-self-in-Continue-branch-3 c =
    let files = c.self.inside.list.items in
    let changed : c.push.new.self.items ≡ with_file files c.args.name.now c.args.bytes.now =
    grind (arith, common_steps, file_changes) in
    rw changed (HaveDistinctNames-with_file files _ _ c.self.invariant)
