use Rattle.std.proofs.Common.{◌++◌}
use Rattle.std.proofs.lemmas.Result.{on_ok_weaker}
use Rattle.ash_image.specs.Fields.{number, text, items}
use Rattle.ash_image.specs.Image.{loaded_module, service, object}
use Rattle.ash_image.specs.SnapshotViews.{snapshot_in}
use Rattle.ash_image.proofs.Appended.{appended2, appended6}
use Rattle.ash_image.proofs.image.write_image_into.Goals as goal

pub returns : goal.returns
returns c = record {
  value =
      let s = snapshot_in c.args.state in
      let registered = text 4 s.registered in
      let service_bytes = items 2 service s.services in
      let module_bytes = items 1 loaded_module s.modules in
      let object_bytes = items 4 object s.objects in
      on_ok_weaker c.write_objects.result
      (λ last. appended2 c.args.out.now.items c.write_u16.new.out.items c.write_objects.new.out.items (number 2 2)
      (registered ++ (number 8 s.seq ++ (number 8 s.last ++ (service_bytes ++ (module_bytes ++ object_bytes)))))
      c.in_ok-write_u16.ensures.written
      (appended6 c.write_u16.new.out.items c.write_registered.new.out.items c.write_u64.new.out.items
      c.write_u64-2.new.out.items c.write_services.new.out.items c.write_modules.new.out.items
      c.write_objects.new.out.items
      registered (number 8 s.seq) (number 8 s.last) service_bytes module_bytes object_bytes
      c.in_ok-write_registered.ensures.value c.in_ok-write_u64.ensures.written c.in_ok-write_u64-2.ensures.written
      c.in_ok-write_services.ensures.written c.in_ok-write_modules.ensures.written last))
      c.write_objects.ensures.written;
}
