use Rattle.std.proofs.Common.{refl, []}
use Rattle.ash_host.specs.Reach.{leads}
use Rattle.ash_image.specs.declared.version.Version.TheVariants.{Two}
use Rattle.ash_image.specs.Fields.{times_at}
use Rattle.ash_image.specs.ImageWords.{value_at, word_at}
use Rattle.ash_image.specs.ObjectBytes.{element_case, element_at, fields_at, elements_at, state_at, kind_and_state_at}
use Rattle.ash_image.specs.ObjectBytes.{script_at, array_at, plain_case, plain_at}
use Rattle.ash_image.specs.ImageReading.{name_at, source_at, globals_at, module_at, modules_at, services_at, body_at}
use Rattle.ash_image.specs.ImageReading.{object_at, objects_at}
use Rattle.ash_image.specs.ImageExamples.{empty_object, handle_to, null}
use Rattle.ash_image.specs.Damage.{array, of_class, of_kind, one_global, one_object, script, two_numbers, two_objects}
use Rattle.ash_image.proofs.ExampleLaws.{all_reached, read_rest, ascii_fits, damaged_by_test, some_image_by_test}
use Rattle.ash_image.proofs.examples.worked_numbers.Goals as goal

pub returns-clause-in_order : goal.returns-clause-in_order
unfolding all_reached read_rest modules_at services_at objects_at module_at name_at source_at globals_at object_at body_at times_at plain_at plain_case script_at array_at element_at element_case fields_at elements_at state_at kind_and_state_at word_at value_at leads
returns-clause-in_order c =
    some_image_by_test Two [] (two_numbers 1 2 1 2) (ascii_fits [] refl refl) refl refl

pub returns-clause-order_of_objects : goal.returns-clause-order_of_objects
unfolding all_reached read_rest modules_at services_at objects_at module_at name_at source_at globals_at object_at body_at times_at plain_at plain_case script_at array_at element_at element_case fields_at elements_at state_at kind_and_state_at word_at value_at leads
returns-clause-order_of_objects c =
    damaged_by_test Two [] (two_numbers 1 2 2 1) (ascii_fits [] refl refl) refl

pub returns-clause-one_number : goal.returns-clause-one_number
unfolding all_reached read_rest modules_at services_at objects_at module_at name_at source_at globals_at object_at body_at times_at plain_at plain_case script_at array_at element_at element_case fields_at elements_at state_at kind_and_state_at word_at value_at leads
returns-clause-one_number c =
    damaged_by_test Two [] (two_numbers 1 1 1 1) (ascii_fits [] refl refl) refl

pub returns-clause-number_zero : goal.returns-clause-number_zero
unfolding all_reached read_rest modules_at services_at objects_at module_at name_at source_at globals_at object_at body_at times_at plain_at plain_case script_at array_at element_at element_case fields_at elements_at state_at kind_and_state_at word_at value_at leads
returns-clause-number_zero c =
    damaged_by_test Two [] (two_numbers 0 1 0 1) (ascii_fits [] refl refl) refl

pub returns-clause-above_the_last : goal.returns-clause-above_the_last
unfolding all_reached read_rest modules_at services_at objects_at module_at name_at source_at globals_at object_at body_at times_at plain_at plain_case script_at array_at element_at element_case fields_at elements_at state_at kind_and_state_at word_at value_at leads
returns-clause-above_the_last c =
    damaged_by_test Two [] (two_numbers 1 3 1 3) (ascii_fits [] refl refl) refl

pub returns-clause-never_reached : goal.returns-clause-never_reached
unfolding all_reached read_rest modules_at services_at objects_at module_at name_at source_at globals_at object_at body_at times_at plain_at plain_case script_at array_at element_at element_case fields_at elements_at state_at kind_and_state_at word_at value_at leads
returns-clause-never_reached c =
    damaged_by_test Two [] (two_numbers 1 1 1 2) (ascii_fits [] refl refl) refl

pub returns-clause-no_such_object : goal.returns-clause-no_such_object
unfolding all_reached read_rest modules_at services_at objects_at module_at name_at source_at globals_at object_at body_at times_at plain_at plain_case script_at array_at element_at element_case fields_at elements_at state_at kind_and_state_at word_at value_at leads
returns-clause-no_such_object c =
    damaged_by_test Two [] (one_global (handle_to 1)) (ascii_fits [] refl refl) refl

pub returns-clause-by_field : goal.returns-clause-by_field
unfolding all_reached read_rest modules_at services_at objects_at module_at name_at source_at globals_at object_at body_at times_at plain_at plain_case script_at array_at element_at element_case fields_at elements_at state_at kind_and_state_at word_at value_at leads
returns-clause-by_field c =
    some_image_by_test Two [] (two_objects (script 0 1 (handle_to 2)) empty_object) (ascii_fits [] refl refl) refl refl

pub returns-clause-no_object_of_field : goal.returns-clause-no_object_of_field
unfolding all_reached read_rest modules_at services_at objects_at module_at name_at source_at globals_at object_at body_at times_at plain_at plain_case script_at array_at element_at element_case fields_at elements_at state_at kind_and_state_at word_at value_at leads
returns-clause-no_object_of_field c =
    damaged_by_test Two [] (one_object 1 (script 0 1 (handle_to 2))) (ascii_fits [] refl refl) refl

pub returns-clause-by_element : goal.returns-clause-by_element
unfolding all_reached read_rest modules_at services_at objects_at module_at name_at source_at globals_at object_at body_at times_at plain_at plain_case script_at array_at element_at element_case fields_at elements_at state_at kind_and_state_at word_at value_at leads
returns-clause-by_element c =
    some_image_by_test Two [] (two_objects (array (of_class 0) (handle_to 2)) empty_object) (ascii_fits [] refl refl) refl refl

pub returns-clause-no_object_of_element : goal.returns-clause-no_object_of_element
unfolding all_reached read_rest modules_at services_at objects_at module_at name_at source_at globals_at object_at body_at times_at plain_at plain_case script_at array_at element_at element_case fields_at elements_at state_at kind_and_state_at word_at value_at leads
returns-clause-no_object_of_element c =
    damaged_by_test Two [] (one_object 1 (array of_kind (handle_to 2))) (ascii_fits [] refl refl) refl

pub returns-clause-by_nothing : goal.returns-clause-by_nothing
unfolding all_reached read_rest modules_at services_at objects_at module_at name_at source_at globals_at object_at body_at times_at plain_at plain_case script_at array_at element_at element_case fields_at elements_at state_at kind_and_state_at word_at value_at leads
returns-clause-by_nothing c =
    damaged_by_test Two [] (two_objects (script 0 1 null) empty_object) (ascii_fits [] refl refl) refl

pub returns-clause-by_itself : goal.returns-clause-by_itself
unfolding all_reached read_rest modules_at services_at objects_at module_at name_at source_at globals_at object_at body_at times_at plain_at plain_case script_at array_at element_at element_case fields_at elements_at state_at kind_and_state_at word_at value_at leads
returns-clause-by_itself c =
    damaged_by_test Two [] (two_objects (script 0 1 null) (script 0 1 (handle_to 2))) (ascii_fits [] refl refl) refl
