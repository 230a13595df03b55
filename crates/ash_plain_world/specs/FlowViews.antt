-- What the code's flows represent.
use Rattle.ash_meaning.specs.StatementMeaning.{Flow, On, Broke, Continued, Returned}
use Rattle.ash_plain_world.specs.declared.flow.Flow as flow
use Rattle.ash_plain_world.specs.declared.flow.Flow.TheVariants as flows

abbrev pub flow_seen : flow.Flow → Flow
flow_seen flows.On = On
flow_seen flows.Broke = Broke
flow_seen flows.Continued = Continued
flow_seen (flows.Returned value) = Returned value
