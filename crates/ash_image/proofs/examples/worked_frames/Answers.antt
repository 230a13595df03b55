use Rattle.std.proofs.Common.{refl, ◌∷◌, [], ◌++◌, take, arith}
use Rattle.ash_host.specs.Reach.{leads}
use Rattle.ash_image.specs.declared.version.Version.TheVariants.{One, Two}
use Rattle.ash_image.specs.Fields.{times_at}
use Rattle.ash_image.specs.ImageWords.{value_at, word_at}
use Rattle.ash_image.specs.ObjectBytes.{element_case, element_at, fields_at, elements_at, state_at, kind_and_state_at}
use Rattle.ash_image.specs.ObjectBytes.{script_at, array_at, plain_case, plain_at}
use Rattle.ash_image.specs.ImageReading.{name_at, source_at, globals_at, module_at, modules_at, services_at, body_at}
use Rattle.ash_image.specs.ImageReading.{object_at, objects_at}
use Rattle.ash_image.specs.ImageReading.{version_at, image_at}
use Rattle.std.specs.Str.{is_utf8, chars}
use Rattle.ash_image.specs.ImageExamples.{nothing_rest, of_each_rest, registered, without_text}
use Rattle.ash_image.proofs.ExampleLaws.{all_reached, read_rest, ascii_fits, damaged_at_once, damaged_by_test, damaged_by_text}
use Rattle.ash_image.proofs.examples.worked_frames.Goals as goal

pub returns-clause-no_bytes : goal.returns-clause-no_bytes
unfolding version_at image_at
returns-clause-no_bytes c = damaged_at_once [] refl

pub returns-clause-version_zero : goal.returns-clause-version_zero
unfolding version_at image_at
returns-clause-version_zero c = damaged_at_once (without_text 0 nothing_rest) refl

pub returns-clause-another_version : goal.returns-clause-another_version
unfolding version_at image_at
returns-clause-another_version c = damaged_at_once (without_text 3 nothing_rest) refl

pub returns-clause-text_of_no_text : goal.returns-clause-text_of_no_text
unfolding is_utf8 chars
returns-clause-text_of_no_text c = damaged_by_text Two (255 ∷ []) nothing_rest (omega arith) refl

pub returns-clause-left_over : goal.returns-clause-left_over
unfolding all_reached read_rest modules_at services_at objects_at module_at name_at source_at globals_at object_at body_at times_at plain_at plain_case script_at array_at element_at element_case fields_at elements_at state_at kind_and_state_at word_at value_at leads
returns-clause-left_over c =
    damaged_by_test Two [] (nothing_rest ++ 0 ∷ []) (ascii_fits [] refl refl) refl

pub returns-clause-cut : goal.returns-clause-cut
unfolding all_reached read_rest modules_at services_at objects_at module_at name_at source_at globals_at object_at body_at times_at plain_at plain_case script_at array_at element_at element_case fields_at elements_at state_at kind_and_state_at word_at value_at leads
returns-clause-cut c =
    damaged_by_test Two [] (take 22 nothing_rest) (ascii_fits [] refl refl) refl

pub returns-clause-array_before_arrays : goal.returns-clause-array_before_arrays
unfolding all_reached read_rest modules_at services_at objects_at module_at name_at source_at globals_at object_at body_at times_at plain_at plain_case script_at array_at element_at element_case fields_at elements_at state_at kind_and_state_at word_at value_at leads
returns-clause-array_before_arrays c =
    damaged_by_test One registered of_each_rest (ascii_fits registered refl refl) refl
