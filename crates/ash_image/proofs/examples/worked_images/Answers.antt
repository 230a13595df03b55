use Rattle.std.proofs.Common.{refl, []}
use Rattle.ash_host.specs.Reach.{leads}
use Rattle.ash_image.specs.declared.version.Version.TheVariants.{One, Two}
use Rattle.ash_image.specs.Fields.{times_at}
use Rattle.ash_image.specs.ImageWords.{value_at, word_at}
use Rattle.ash_image.specs.ObjectBytes.{element_case, element_at, fields_at, elements_at, state_at, kind_and_state_at}
use Rattle.ash_image.specs.ObjectBytes.{script_at, array_at, plain_case, plain_at}
use Rattle.ash_image.specs.ImageReading.{name_at, source_at, globals_at, module_at, modules_at, services_at, body_at}
use Rattle.ash_image.specs.ImageReading.{object_at, objects_at}
use Rattle.ash_image.specs.ImageExamples.{nothing, nothing_rest, of_each, of_each_rest, of_types, of_types_rest, one_type, registered, without_arrays, without_arrays_rest}
use Rattle.ash_image.proofs.ExampleLaws.{all_reached, read_rest, ascii_fits, image_by_test}
use Rattle.ash_image.proofs.examples.worked_images.Goals as goal

pub returns-clause-nothing_loaded : goal.returns-clause-nothing_loaded
unfolding all_reached read_rest modules_at services_at objects_at module_at name_at source_at globals_at object_at body_at times_at plain_at plain_case script_at array_at element_at element_case fields_at elements_at state_at kind_and_state_at word_at value_at leads
returns-clause-nothing_loaded c =
    image_by_test Two [] nothing_rest (Two, nothing) (ascii_fits [] refl refl) refl refl refl

pub returns-clause-nothing_loaded_before : goal.returns-clause-nothing_loaded_before
unfolding all_reached read_rest modules_at services_at objects_at module_at name_at source_at globals_at object_at body_at times_at plain_at plain_case script_at array_at element_at element_case fields_at elements_at state_at kind_and_state_at word_at value_at leads
returns-clause-nothing_loaded_before c =
    image_by_test One [] nothing_rest (One, nothing) (ascii_fits [] refl refl) refl refl refl

pub returns-clause-object_of_each : goal.returns-clause-object_of_each
unfolding all_reached read_rest modules_at services_at objects_at module_at name_at source_at globals_at object_at body_at times_at plain_at plain_case script_at array_at element_at element_case fields_at elements_at state_at kind_and_state_at word_at value_at leads
returns-clause-object_of_each c =
    image_by_test Two registered of_each_rest (Two, of_each) (ascii_fits registered refl refl) refl refl refl

pub returns-clause-without_arrays : goal.returns-clause-without_arrays
unfolding all_reached read_rest modules_at services_at objects_at module_at name_at source_at globals_at object_at body_at times_at plain_at plain_case script_at array_at element_at element_case fields_at elements_at state_at kind_and_state_at word_at value_at leads
returns-clause-without_arrays c =
    image_by_test Two registered without_arrays_rest (Two, without_arrays) (ascii_fits registered refl refl) refl refl refl

pub returns-clause-without_arrays_before : goal.returns-clause-without_arrays_before
unfolding all_reached read_rest modules_at services_at objects_at module_at name_at source_at globals_at object_at body_at times_at plain_at plain_case script_at array_at element_at element_case fields_at elements_at state_at kind_and_state_at word_at value_at leads
returns-clause-without_arrays_before c =
    image_by_test One registered without_arrays_rest (One, without_arrays) (ascii_fits registered refl refl) refl refl refl

pub returns-clause-word_of_each : goal.returns-clause-word_of_each
unfolding all_reached read_rest modules_at services_at objects_at module_at name_at source_at globals_at object_at body_at times_at plain_at plain_case script_at array_at element_at element_case fields_at elements_at state_at kind_and_state_at word_at value_at leads
returns-clause-word_of_each c =
    image_by_test Two one_type of_types_rest (Two, of_types) (ascii_fits one_type refl refl) refl refl refl
