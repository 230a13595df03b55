use Rattle.std.proofs.Common.{◌≡◌, map}
use Rattle.ash_plain_data.specs.ObjectViews.{entry_seen}
use Rattle.std.specs.List.{list_all}
use Rattle.ash_admission.specs.Contents.{is_object, are_objects}
use Rattle.ash_admission.specs.Admission.{program_of}
use Rattle.ash_admission.proofs.contents.are_objects.Given as goal

abbrev pub invariant-loop-object : goal.invariant-loop-object
invariant-loop-object l = list_all (λ e. is_object l.kinds (map program_of l.modules) l.objects e.1) (map entry_seen l.object-iterator) ≡ are_objects l.kinds (map program_of l.modules) l.objects
