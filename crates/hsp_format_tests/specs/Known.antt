-- A peer whose talk is known.
use Rattle.std.specs.Prelude.{List, map}
use Rattle.hsp_talk.specs.Talk.{Event}
use Rattle.hsp_talk.specs.Talk.Event.{received, sent}
use Rattle.hsp_format_tests.specs.declared.known.Turn.{Turn}
use Rattle.hsp_format_tests.specs.declared.known.Turn.TheVariants as turn

abbrev pub event_of : Turn → Event
event_of (turn.Received octets) = received octets.items
event_of (turn.Sent octets) = sent octets.items

abbrev pub events_of : List Turn → List Event
events_of turns = map event_of turns
