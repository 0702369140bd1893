-- What a batch sees of its modules, by the table.
use Rattle.std.specs.Prelude.{ℕ, List, Option, Some, None}
use Rattle.chart_cursor.specs.Sights.{Sights}
use Rattle.chart_cursor.specs.declared.sight.ReadingSight.{ReadingSight}
use Rattle.chart_cursor.specs.declared.sight.ReadingSight.TheVariants as reading_sight
use Rattle.chart_cursor.specs.declared.sight.Sight.{Sight}
use Rattle.chart_cursor.specs.declared.sight.Sight.TheVariants as sight
use Rattle.pol_events.specs.Bound.{bound_tag}
use Rattle.pol_events.specs.declared.event.Bind.{Bind}
use Rattle.pol_slots.specs.Sights.{slot_sight, slot_reading}
use Rattle.pol_slots.specs.declared.slot.Slot.{Slot}
use Rattle.pol_table.specs.Rows.{Rows, part_of}

-- what is seen of a service of this slot, if there is one
abbrev pub slot_sees : Option Slot → List ℕ → Sight
slot_sees None service = sight.Unreported
slot_sees (Some slot) service = slot_sight slot service

-- what is seen of a variable of this slot, if there is one
abbrev pub slot_reads : Option Slot → List ℕ → ReadingSight
slot_reads None name = reading_sight.Unreported
slot_reads (Some slot) name = slot_reading slot name

-- what is seen of the service of a tag, if the role has one
abbrev pub tag_sees : Rows Slot → Option (List ℕ) → List ℕ → Sight
tag_sees rows None service = sight.Unreported
tag_sees rows (Some tag) service = slot_sees (part_of tag rows) service

-- what is seen of the variable of a tag, if the role has one
abbrev pub tag_reads : Rows Slot → Option (List ℕ) → List ℕ → ReadingSight
tag_reads rows None name = reading_sight.Unreported
tag_reads rows (Some tag) name = slot_reads (part_of tag rows) name

-- what a batch with these binds sees
abbrev pub table_sights : Rows Slot → List Bind → Sights
table_sights rows binds =
    record {
      tag = bound_tag binds;
      view = λ role service. tag_sees rows (bound_tag binds role) service;
      reading = λ role name. tag_reads rows (bound_tag binds role) name;
    }
