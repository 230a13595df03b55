use Rattle.std.proofs.Common.{refl, ◌∷◌, []}
use Rattle.ash_host.specs.Reach.{leads}
use Rattle.ash_image.specs.declared.version.Version.TheVariants.{Two}
use Rattle.ash_image.specs.Fields.{times_at}
use Rattle.ash_image.specs.ImageWords.{value_at, word_at}
use Rattle.ash_image.specs.ObjectBytes.{element_case, element_at, fields_at, elements_at, state_at, kind_and_state_at}
use Rattle.ash_image.specs.ObjectBytes.{script_at, array_at, plain_case, plain_at}
use Rattle.ash_image.specs.ImageReading.{name_at, source_at, globals_at, module_at, modules_at, services_at, body_at}
use Rattle.ash_image.specs.ImageReading.{object_at, objects_at}
use Rattle.ash_image.specs.ImageExamples.{none2, none4, null}
use Rattle.ash_image.specs.Damage.{array, of_class, one_object, repeated, script, seven}
use Rattle.ash_image.proofs.ExampleLaws.{all_reached, read_rest, ascii_fits, damaged_by_test, some_image_by_test}
use Rattle.ash_image.proofs.examples.worked_objects.Goals as goal

pub returns-clause-one : goal.returns-clause-one
unfolding all_reached read_rest modules_at services_at objects_at module_at name_at source_at globals_at object_at body_at times_at plain_at plain_case script_at array_at element_at element_case fields_at elements_at state_at kind_and_state_at word_at value_at leads
returns-clause-one c =
    some_image_by_test Two [] (one_object 1 (script 0 0 [])) (ascii_fits [] refl refl) refl refl

pub returns-clause-no_such_module : goal.returns-clause-no_such_module
unfolding all_reached read_rest modules_at services_at objects_at module_at name_at source_at globals_at object_at body_at times_at plain_at plain_case script_at array_at element_at element_case fields_at elements_at state_at kind_and_state_at word_at value_at leads
returns-clause-no_such_module c =
    damaged_by_test Two [] (one_object 1 (script 1 0 [])) (ascii_fits [] refl refl) refl

pub returns-clause-above_the_last : goal.returns-clause-above_the_last
unfolding all_reached read_rest modules_at services_at objects_at module_at name_at source_at globals_at object_at body_at times_at plain_at plain_case script_at array_at element_at element_case fields_at elements_at state_at kind_and_state_at word_at value_at leads
returns-clause-above_the_last c =
    damaged_by_test Two [] (one_object 0 (script 0 0 [])) (ascii_fits [] refl refl) refl

pub returns-clause-tag_zero : goal.returns-clause-tag_zero
unfolding all_reached read_rest modules_at services_at objects_at module_at name_at source_at globals_at object_at body_at times_at plain_at plain_case script_at array_at element_at element_case fields_at elements_at state_at kind_and_state_at word_at value_at leads
returns-clause-tag_zero c =
    damaged_by_test Two [] (one_object 1 (0 ∷ [])) (ascii_fits [] refl refl) refl

pub returns-clause-tag_zero_4 : goal.returns-clause-tag_zero_4
unfolding all_reached read_rest modules_at services_at objects_at module_at name_at source_at globals_at object_at body_at times_at plain_at plain_case script_at array_at element_at element_case fields_at elements_at state_at kind_and_state_at word_at value_at leads
returns-clause-tag_zero_4 c =
    damaged_by_test Two [] (one_object 1 (0 ∷ none4)) (ascii_fits [] refl refl) refl

pub returns-clause-tag_four : goal.returns-clause-tag_four
unfolding all_reached read_rest modules_at services_at objects_at module_at name_at source_at globals_at object_at body_at times_at plain_at plain_case script_at array_at element_at element_case fields_at elements_at state_at kind_and_state_at word_at value_at leads
returns-clause-tag_four c =
    damaged_by_test Two [] (one_object 1 (4 ∷ [])) (ascii_fits [] refl refl) refl

pub returns-clause-tag_four_4 : goal.returns-clause-tag_four_4
unfolding all_reached read_rest modules_at services_at objects_at module_at name_at source_at globals_at object_at body_at times_at plain_at plain_case script_at array_at element_at element_case fields_at elements_at state_at kind_and_state_at word_at value_at leads
returns-clause-tag_four_4 c =
    damaged_by_test Two [] (one_object 1 (4 ∷ none4)) (ascii_fits [] refl refl) refl

pub returns-clause-fields : goal.returns-clause-fields
unfolding all_reached read_rest modules_at services_at objects_at module_at name_at source_at globals_at object_at body_at times_at plain_at plain_case script_at array_at element_at element_case fields_at elements_at state_at kind_and_state_at word_at value_at leads
returns-clause-fields c =
    some_image_by_test Two [] (one_object 1 (script 0 32 (repeated 32 null))) (ascii_fits [] refl refl) refl refl

pub returns-clause-field_too_many : goal.returns-clause-field_too_many
unfolding all_reached read_rest modules_at services_at objects_at module_at name_at source_at globals_at object_at body_at times_at plain_at plain_case script_at array_at element_at element_case fields_at elements_at state_at kind_and_state_at word_at value_at leads
returns-clause-field_too_many c =
    damaged_by_test Two [] (one_object 1 (script 0 33 (repeated 33 null))) (ascii_fits [] refl refl) refl

pub returns-clause-elements : goal.returns-clause-elements
unfolding all_reached read_rest modules_at services_at objects_at module_at name_at source_at globals_at object_at body_at times_at plain_at plain_case script_at array_at element_at element_case fields_at elements_at state_at kind_and_state_at word_at value_at leads
returns-clause-elements c =
    some_image_by_test Two [] (one_object 1 (array (1 ∷ []) seven)) (ascii_fits [] refl refl) refl refl

pub returns-clause-word_of_another_type : goal.returns-clause-word_of_another_type
unfolding all_reached read_rest modules_at services_at objects_at module_at name_at source_at globals_at object_at body_at times_at plain_at plain_case script_at array_at element_at element_case fields_at elements_at state_at kind_and_state_at word_at value_at leads
returns-clause-word_of_another_type c =
    damaged_by_test Two [] (one_object 1 (array (1 ∷ []) null)) (ascii_fits [] refl refl) refl

pub returns-clause-element_of_another_type : goal.returns-clause-element_of_another_type
unfolding all_reached read_rest modules_at services_at objects_at module_at name_at source_at globals_at object_at body_at times_at plain_at plain_case script_at array_at element_at element_case fields_at elements_at state_at kind_and_state_at word_at value_at leads
returns-clause-element_of_another_type c =
    damaged_by_test Two [] (one_object 1 (array (2 ∷ []) seven)) (ascii_fits [] refl refl) refl

pub returns-clause-handles : goal.returns-clause-handles
unfolding all_reached read_rest modules_at services_at objects_at module_at name_at source_at globals_at object_at body_at times_at plain_at plain_case script_at array_at element_at element_case fields_at elements_at state_at kind_and_state_at word_at value_at leads
returns-clause-handles c =
    some_image_by_test Two [] (one_object 1 (array (of_class 0) null)) (ascii_fits [] refl refl) refl refl

pub returns-clause-elements_of_no_module : goal.returns-clause-elements_of_no_module
unfolding all_reached read_rest modules_at services_at objects_at module_at name_at source_at globals_at object_at body_at times_at plain_at plain_case script_at array_at element_at element_case fields_at elements_at state_at kind_and_state_at word_at value_at leads
returns-clause-elements_of_no_module c =
    damaged_by_test Two [] (one_object 1 (array (of_class 1) null)) (ascii_fits [] refl refl) refl

pub returns-clause-unknown_element : goal.returns-clause-unknown_element
unfolding all_reached read_rest modules_at services_at objects_at module_at name_at source_at globals_at object_at body_at times_at plain_at plain_case script_at array_at element_at element_case fields_at elements_at state_at kind_and_state_at word_at value_at leads
returns-clause-unknown_element c =
    damaged_by_test Two [] (one_object 1 (array (7 ∷ []) null)) (ascii_fits [] refl refl) refl

pub returns-clause-unknown_element_2 : goal.returns-clause-unknown_element_2
unfolding all_reached read_rest modules_at services_at objects_at module_at name_at source_at globals_at object_at body_at times_at plain_at plain_case script_at array_at element_at element_case fields_at elements_at state_at kind_and_state_at word_at value_at leads
returns-clause-unknown_element_2 c =
    damaged_by_test Two [] (one_object 1 (array (7 ∷ none2) null)) (ascii_fits [] refl refl) refl
