use Rattle.snoop_engine.proofs.Common.{◌≡◌, ◌++◌, stored_by, worded_by, arith, values_of, words_of, common_steps, append-nil, length-append}
use Rattle.{std.proofs.lemmas.List.Sums.sum_by_push, snoop_engine.specs.declared.packed.Head.Head}
use Rattle.snoop_engine.proofs.Packing.{steps_counted, steps_more}
use Rattle.snoop_engine.proofs.packed.StepQueueEntriesStep.append.Goals.{After-new}
use Rattle.snoop_engine.proofs.packed.StepQueueEntriesStep.append.Goals as goal

-- the queues have the step's word and value at their ends
appended : (c : After-new) → (c.match-step.self-inside.words.items ≡ c.self.inside.words.items ++ words_of c.args.step) × (c.match-step.self-inside.values.items ≡ c.self.inside.values.items ++ values_of c.args.step) × (c.match-step.self-inside.heads.items ≡ c.self.inside.heads.items)
appended c = (grind (arith, common_steps, append-nil), grind (arith, common_steps, append-nil), grind (arith, common_steps))

pub invariant_of-self-2 : goal.invariant_of-self-2
invariant_of-self-2 c =
    let all = appended (goal.at.invariant_of-self-2 c).After-new in
    rw (c.push_back_reserved-2.ensures.items, all.0, all.1, all.2) (
      omega (arith, sum_by_push (λ (h : Head). worded_by h.kind) c.self.inside.heads.items c.new.result, length-append c.self.inside.words.items (words_of c.args.step)),
      omega (arith, sum_by_push (λ (h : Head). stored_by h.kind) c.self.inside.heads.items c.new.result, length-append c.self.inside.values.items (values_of c.args.step)),
    )

pub returns-clause-items : goal.returns-clause-items
returns-clause-items c =
    let all = appended (goal.at.returns-clause-items c).After-new in
    let more = steps_more c.self.inside.heads.items c.self.inside.words.items c.self.inside.values.items c.new.result (words_of c.args.step) (values_of c.args.step) c.self.invariant.0 c.self.invariant.1 in
    rw (c.push_back_reserved-2.ensures.items, all.0, all.1, all.2) (rw (c.new.ensures.step, c.self.view_is) at more)

-- a queue has room for fewer than 2^63 heads
pub returns-clause-bounded : goal.returns-clause-bounded
returns-clause-bounded c =
    let heads = c.push_back_reserved-2.new.self in
    let now = c.match-step.self-inside in
    omega (arith, steps_counted heads.items now.words.items now.values.items, heads.ok.0, heads.small.0, heads.small.1)
