use Rattle.snoop_cores.proofs.{Common.{ap, block_at, Extent, slice_get-get_or, Some, sym, ◌∙◌}, Joining.serves_one}
use Rattle.std.specs.Option.{is_some}
use Rattle.snoop_cores.proofs.rows.is_served_at_its_place.Goals as goal

pub returns-in-Some : goal.returns-in-Some
returns-in-Some c = record {
  sound = λ yes. serves_one c.args.seats.now c.args.row.now c.in-Some.seat.now c.requires (slice_get-get_or c.args.seats.now c.args.row.now.core c.in-Some.seat.now c.in-Some.ensures.lookup.3.0 ∙ ap Some (sym c.in-Some.ensures.lookup.1))
      (sym (c.is_some.ensures ∙ ap is_some (c.block_of.ensures ∙ ap (λ (shape : Extent). block_at shape c.args.row.now.address) c.shape.ensures)) ∙ yes);
}
