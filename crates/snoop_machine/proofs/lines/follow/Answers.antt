use Rattle.snoop_machine.proofs.Common.{◌∙◌, get_or_default, no_holders}
use Rattle.snoop_machine.proofs.lines.follow.Goals as goal

pub returns : goal.returns
returns c =
    let is = c.get_or-moved.ensures ∙ get_or_default c.args.holders.now c.args.block c.default.result no_holders c.requires.block in
    record {
      moved = record { owners = c.set.new.self; readers = c.set-2.new.self };
      set = c.set-3.ensures;
      follows = rw (← is) (record {
        owner = c.set.ensures.here ∙ c.of-membership.ensures.owner;
        reader = c.set-2.ensures.here ∙ c.of-membership.ensures.reader;
        other_owners = c.set.ensures.others;
        other_readers = c.set-2.ensures.others;
      });
    }
