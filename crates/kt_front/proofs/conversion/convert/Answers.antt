use Rattle.kt_front.proofs.conversion.convert.Goals as goal

pub returns-in-ToFile : goal.returns-in-ToFile
returns-in-ToFile g c inputs outputs = rw c.in-ToFile.is (c.convert_to_file.ensures inputs outputs)

pub returns-in-ToText : goal.returns-in-ToText
returns-in-ToText g c inputs outputs = rw c.in-ToText.is (c.convert_to_text.ensures inputs outputs)
