-- What the code's calls of hosts represent, and what it has of their answers.
use Rattle.ash_host.specs.Calls as calls
use Rattle.ash_host.specs.Calls.{HostCall}
use Rattle.ash_host.specs.Records.{HostRecord}
use Rattle.ash_plain_data.specs.declared.host_call.HostCall as host_call
use Rattle.ash_plain_data.specs.declared.host_call.HostCall.TheVariants as host_calls
use Rattle.ash_plain_data.specs.declared.host_call.HostRecord as host_record

abbrev pub call_seen : host_call.HostCall → HostCall
call_seen (host_calls.Start args) = calls.Start args.items
call_seen (host_calls.Invoke method args) = calls.Invoke method args.items
call_seen (host_calls.Get property) = calls.Get property
call_seen (host_calls.Set property value) = calls.Set property value

abbrev pub record_seen : host_record.HostRecord → HostRecord
record_seen r = record {
  target = r.target;
  call = call_seen r.call;
  before = r.before.items;
  answer = r.answer;
  after = r.after.items;
}
