-- The events that name one thing and nothing more, by their kinds.
use Rattle.std.specs.Prelude.{ℕ, List}
use Rattle.pol_events.specs.Events.{PlainEvent, unplug, advance, thaw, stop_batch, abandon, exchange_begin}
use Rattle.event_json.specs.declared.kind.BatchKind.{BatchKind}
use Rattle.event_json.specs.declared.kind.BatchKind.TheVariants.{Advance, Thaw, Stop, Abandon}
use Rattle.event_json.specs.declared.kind.TagKind.{TagKind}
use Rattle.event_json.specs.declared.kind.TagKind.TheVariants.{Unplug, ExchangeBegin}

-- the events that name a tag alone
abbrev pub tag_event : TagKind → ℕ → List ℕ → PlainEvent
tag_event Unplug = unplug
tag_event ExchangeBegin = exchange_begin

-- the events that name a batch alone
abbrev pub batch_event : BatchKind → ℕ → List ℕ → PlainEvent
batch_event Advance = advance
batch_event Thaw = thaw
batch_event Stop = stop_batch
batch_event Abandon = abandon
