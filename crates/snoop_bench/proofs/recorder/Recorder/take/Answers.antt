use Rattle.std.proofs.Common.{◌∙◌, rules, sym, ap, subst, ◌≡◌, ◌++◌, List}
use Rattle.snoop_bench.proofs.Common.{All-push, IsReadableStep, IsRecorded, Item, option_to_list, Recording, Reply, Situation, Step, TakesAndPublishes}
use Rattle.snoop_model.proofs.Runs.GoOn.{taken_goes_on}
use Rattle.snoop_bench.proofs.recorder.Recorder.take.Goals as goal

-- a recorded run after one more step
recorded_on : {p q : Recording} {step : Step} {answer : Reply} → IsRecorded p → TakesAndPublishes step answer p q → IsReadableStep p.situation.shape step
    → (q.situation.protocol ≡ p.situation.protocol) × (q.situation.shape ≡ p.situation.shape) → IsRecorded q
recorded_on {p} {q} {step} {answer} r took within stays = record {
  run = rw (← stays.0, ← stays.1, ← took.steps) at
      (taken_goes_on p.situation.protocol p.situation.shape p.steps step answer p.situation q.situation r.run took.move);
  readable = rw (stays.1, took.steps) (All-push (IsReadableStep p.situation.shape) p.steps step r.readable within);
  published = took.published ∙ ap (λ (l : List Item). l ++ option_to_list took.item) r.published
      ∙ sym took.logged;
}

pub publish-requires-clause-recorded : goal.publish-requires-clause-recorded
publish-requires-clause-recorded g c =
    let p : Recording = record { situation = c.self.inside.machine.situation; steps = c.self.inside.steps.items; published = c.self.inside.writer.list } in
    let q : Recording = record { situation = c.step.new.self.situation; steps = c.deref.result.now; published = c.ready.new.writer.list ++ c.ready.new.writer.ready } in
    let taken = c.in-Ok-step.ensures.taken in
    let adds = c.in-Ok-prepared.ensures.ok.adds c.in-Ok-step.reply c.step.new.self.situation taken in
    let took : TakesAndPublishes c.args.step c.in-Ok-step.reply p q =
    record { item = c.in-Ok-prepared.item; move = rw c.prepared.ensures.unchanged at taken; logged = rw c.prepared.ensures.unchanged at adds; steps = search rules; published = search rules } in
    let protocol = c.step.ensures.stays.0 ∙ ap (λ (x : Situation). x.protocol) c.prepared.ensures.unchanged in
    let within = subst (λ (r : Recording). IsReadableStep r.situation.shape c.args.step) (sym c.self.view_is) c.requires.within in
    recorded_on c.self.invariant.recorded took within (protocol, c.step.ensures.stays.1 ∙ ap (λ (x : Situation). x.shape) c.prepared.ensures.unchanged)

pub returns-clause-takes : goal.returns-clause-takes
returns-clause-takes g c =
    let taken = c.in-Ok-step.ensures.taken in
    let adds = c.in-Ok-prepared.ensures.ok.adds c.in-Ok-step.reply c.step.new.self.situation taken in
    rw (← c.self.view_is)
    (record { item = c.in-Ok-prepared.item; move = rw c.prepared.ensures.unchanged at taken; logged = rw c.prepared.ensures.unchanged at adds; steps = search rules; published = search rules })
