use Rattle.std.proofs.Common.{refl, ◌∷◌, [], replicate}
use Rattle.std.specs.Prelude.{codes}
use Rattle.ash_host.specs.Reach.{leads}
use Rattle.ash_image.specs.declared.version.Version.TheVariants.{Two}
use Rattle.ash_image.specs.Fields.{times_at}
use Rattle.ash_image.specs.ImageWords.{value_at, word_at}
use Rattle.ash_image.specs.ObjectBytes.{element_case, element_at, fields_at, elements_at, state_at, kind_and_state_at}
use Rattle.ash_image.specs.ObjectBytes.{script_at, array_at, plain_case, plain_at}
use Rattle.ash_image.specs.ImageReading.{name_at, source_at, globals_at, module_at, modules_at, services_at, body_at}
use Rattle.ash_image.specs.ImageReading.{object_at, objects_at}
use Rattle.ash_image.specs.ImageExamples.{none4, none8}
use Rattle.ash_image.specs.Damage.{modules_named, one_global, one_named, so_many_modules, so_many_services}
use Rattle.ash_image.proofs.ExampleLaws.{all_reached, read_rest, ascii_fits, damaged_by_test, some_image_by_test}
use Rattle.ash_image.proofs.examples.worked_modules.Goals as goal

pub returns-clause-in_order : goal.returns-clause-in_order
unfolding all_reached read_rest modules_at services_at objects_at module_at name_at source_at globals_at object_at body_at times_at plain_at plain_case script_at array_at element_at element_case fields_at elements_at state_at kind_and_state_at word_at value_at leads
returns-clause-in_order c =
    some_image_by_test Two [] (modules_named (97 ∷ 98 ∷ [])) (ascii_fits [] refl refl) refl refl

pub returns-clause-order_of_modules : goal.returns-clause-order_of_modules
unfolding all_reached read_rest modules_at services_at objects_at module_at name_at source_at globals_at object_at body_at times_at plain_at plain_case script_at array_at element_at element_case fields_at elements_at state_at kind_and_state_at word_at value_at leads
returns-clause-order_of_modules c =
    damaged_by_test Two [] (modules_named (98 ∷ 97 ∷ [])) (ascii_fits [] refl refl) refl

pub returns-clause-one_name : goal.returns-clause-one_name
unfolding all_reached read_rest modules_at services_at objects_at module_at name_at source_at globals_at object_at body_at times_at plain_at plain_case script_at array_at element_at element_case fields_at elements_at state_at kind_and_state_at word_at value_at leads
returns-clause-one_name c =
    damaged_by_test Two [] (modules_named (97 ∷ 97 ∷ [])) (ascii_fits [] refl refl) refl

pub returns-clause-sixteen_modules : goal.returns-clause-sixteen_modules
unfolding all_reached read_rest modules_at services_at objects_at module_at name_at source_at globals_at object_at body_at times_at plain_at plain_case script_at array_at element_at element_case fields_at elements_at state_at kind_and_state_at word_at value_at leads
returns-clause-sixteen_modules c =
    some_image_by_test Two [] (so_many_modules 16) (ascii_fits [] refl refl) refl refl

pub returns-clause-seventeen_modules : goal.returns-clause-seventeen_modules
unfolding all_reached read_rest modules_at services_at objects_at module_at name_at source_at globals_at object_at body_at times_at plain_at plain_case script_at array_at element_at element_case fields_at elements_at state_at kind_and_state_at word_at value_at leads
returns-clause-seventeen_modules c =
    damaged_by_test Two [] (so_many_modules 17) (ascii_fits [] refl refl) refl

pub returns-clause-name : goal.returns-clause-name
unfolding all_reached read_rest modules_at services_at objects_at module_at name_at source_at globals_at object_at body_at times_at plain_at plain_case script_at array_at element_at element_case fields_at elements_at state_at kind_and_state_at word_at value_at leads
returns-clause-name c =
    some_image_by_test Two [] (one_named (codes "a1")) (ascii_fits [] refl refl) refl refl

pub returns-clause-name_of_a_digit : goal.returns-clause-name_of_a_digit
unfolding all_reached read_rest modules_at services_at objects_at module_at name_at source_at globals_at object_at body_at times_at plain_at plain_case script_at array_at element_at element_case fields_at elements_at state_at kind_and_state_at word_at value_at leads
returns-clause-name_of_a_digit c =
    damaged_by_test Two [] (one_named (codes "1a")) (ascii_fits [] refl refl) refl

pub returns-clause-no_name : goal.returns-clause-no_name
unfolding all_reached read_rest modules_at services_at objects_at module_at name_at source_at globals_at object_at body_at times_at plain_at plain_case script_at array_at element_at element_case fields_at elements_at state_at kind_and_state_at word_at value_at leads
returns-clause-no_name c =
    damaged_by_test Two [] (one_named []) (ascii_fits [] refl refl) refl

pub returns-clause-longest_name : goal.returns-clause-longest_name
unfolding all_reached read_rest modules_at services_at objects_at module_at name_at source_at globals_at object_at body_at times_at plain_at plain_case script_at array_at element_at element_case fields_at elements_at state_at kind_and_state_at word_at value_at leads
returns-clause-longest_name c =
    some_image_by_test Two [] (one_named (replicate 64 97)) (ascii_fits [] refl refl) refl refl

pub returns-clause-name_too_long : goal.returns-clause-name_too_long
unfolding all_reached read_rest modules_at services_at objects_at module_at name_at source_at globals_at object_at body_at times_at plain_at plain_case script_at array_at element_at element_case fields_at elements_at state_at kind_and_state_at word_at value_at leads
returns-clause-name_too_long c =
    damaged_by_test Two [] (one_named (replicate 65 97)) (ascii_fits [] refl refl) refl

pub returns-clause-sixteen_services : goal.returns-clause-sixteen_services
unfolding all_reached read_rest modules_at services_at objects_at module_at name_at source_at globals_at object_at body_at times_at plain_at plain_case script_at array_at element_at element_case fields_at elements_at state_at kind_and_state_at word_at value_at leads
returns-clause-sixteen_services c =
    some_image_by_test Two [] (so_many_services 16) (ascii_fits [] refl refl) refl refl

pub returns-clause-seventeen_services : goal.returns-clause-seventeen_services
unfolding all_reached read_rest modules_at services_at objects_at module_at name_at source_at globals_at object_at body_at times_at plain_at plain_case script_at array_at element_at element_case fields_at elements_at state_at kind_and_state_at word_at value_at leads
returns-clause-seventeen_services c =
    damaged_by_test Two [] (so_many_services 17) (ascii_fits [] refl refl) refl

pub returns-clause-truth : goal.returns-clause-truth
unfolding all_reached read_rest modules_at services_at objects_at module_at name_at source_at globals_at object_at body_at times_at plain_at plain_case script_at array_at element_at element_case fields_at elements_at state_at kind_and_state_at word_at value_at leads
returns-clause-truth c =
    some_image_by_test Two [] (one_global (0 ∷ 1 ∷ [])) (ascii_fits [] refl refl) refl refl

pub returns-clause-truth_of_two : goal.returns-clause-truth_of_two
unfolding all_reached read_rest modules_at services_at objects_at module_at name_at source_at globals_at object_at body_at times_at plain_at plain_case script_at array_at element_at element_case fields_at elements_at state_at kind_and_state_at word_at value_at leads
returns-clause-truth_of_two c =
    damaged_by_test Two [] (one_global (0 ∷ 2 ∷ [])) (ascii_fits [] refl refl) refl

pub returns-clause-unknown_tag : goal.returns-clause-unknown_tag
unfolding all_reached read_rest modules_at services_at objects_at module_at name_at source_at globals_at object_at body_at times_at plain_at plain_case script_at array_at element_at element_case fields_at elements_at state_at kind_and_state_at word_at value_at leads
returns-clause-unknown_tag c =
    damaged_by_test Two [] (one_global (7 ∷ [])) (ascii_fits [] refl refl) refl

pub returns-clause-unknown_tag_1 : goal.returns-clause-unknown_tag_1
unfolding all_reached read_rest modules_at services_at objects_at module_at name_at source_at globals_at object_at body_at times_at plain_at plain_case script_at array_at element_at element_case fields_at elements_at state_at kind_and_state_at word_at value_at leads
returns-clause-unknown_tag_1 c =
    damaged_by_test Two [] (one_global (7 ∷ 0 ∷ [])) (ascii_fits [] refl refl) refl

pub returns-clause-unknown_tag_4 : goal.returns-clause-unknown_tag_4
unfolding all_reached read_rest modules_at services_at objects_at module_at name_at source_at globals_at object_at body_at times_at plain_at plain_case script_at array_at element_at element_case fields_at elements_at state_at kind_and_state_at word_at value_at leads
returns-clause-unknown_tag_4 c =
    damaged_by_test Two [] (one_global (7 ∷ none4)) (ascii_fits [] refl refl) refl

pub returns-clause-unknown_tag_8 : goal.returns-clause-unknown_tag_8
unfolding all_reached read_rest modules_at services_at objects_at module_at name_at source_at globals_at object_at body_at times_at plain_at plain_case script_at array_at element_at element_case fields_at elements_at state_at kind_and_state_at word_at value_at leads
returns-clause-unknown_tag_8 c =
    damaged_by_test Two [] (one_global (7 ∷ none8)) (ascii_fits [] refl refl) refl
