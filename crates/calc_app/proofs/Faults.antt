-- No status hides a fault (`HidesNoFault`): the cases of no fault, of a fault of the sink and of a fault of the source.
use Rattle.std.proofs.Common.{◌≡◌, ◌≤◌, refl, arith}
use Rattle.calc_base.specs.declared.status.Status.{Status}
use Rattle.calc_base.specs.declared.status.Status.TheVariants as status
use Rattle.calc_base.specs.Fault.{Rose}
use Rattle.calc_base.specs.Sink.{SinkSeen}
use Rattle.calc_base.specs.Source.{SourceSeen}
use Rattle.sym_model.specs.Ending.{Ending, done, some_refused, syntax, range, past}
use Rattle.calc_app.specs.Top.{status_of, HidesNoFault}

-- if the counts of faults of the sink and of the source are unchanged, and the status is neither `SinkFault` nor `SourceFault`, it hides no fault
pub no_faults : {old new : SinkSeen} {source now : SourceSeen} {answer : Status} → (answer ≡ status.SinkFault → ⊥) × (answer ≡ status.SourceFault → ⊥)
    → new.faults ≡ old.faults → now.faults ≡ source.faults → HidesNoFault old new source now answer
no_faults others still source_still = record {
  sink_fault = λ e. absurd (others.0 e);
  no_fault = λ n. still;
  later = omega (arith, still);
  source_fault = λ e. absurd (others.1 e);
  no_source_fault = λ n m. source_still;
  source_later = omega (arith, source_still);
}

-- if the sink counted one more fault (`Rose`: the count stops at 2^64 - 1), and no count decreased, the status `SinkFault` hides no fault
pub sink_failed : {old new : SinkSeen} {source now : SourceSeen} → Rose old.faults new.faults → old.faults ≤ new.faults → source.faults ≤ now.faults
    → HidesNoFault old new source now status.SinkFault
sink_failed rose later source_later = record {
  sink_fault = λ e. rose;
  no_fault = λ n. absurd (n refl);
  later = later;
  source_fault = λ e. let clash : status.SinkFault ≡ status.SourceFault = e in cc;
  no_source_fault = λ n m. absurd (m refl);
  source_later = source_later;
}

-- if the count of faults of the source rose (`Rose`), and the count of the sink is unchanged, the status `SourceFault` hides no fault
pub source_failed : {old new : SinkSeen} {source now : SourceSeen} → new.faults ≡ old.faults → Rose source.faults now.faults → source.faults ≤ now.faults
    → HidesNoFault old new source now status.SourceFault
source_failed still rose later = record {
  sink_fault = λ e. let clash : status.SourceFault ≡ status.SinkFault = e in cc;
  no_fault = λ n. still;
  later = omega (arith, still);
  source_fault = λ e. rose;
  no_source_fault = λ n m. absurd (n refl);
  source_later = later;
}

pub ends_well : (ending : Ending) → (status_of ending ≡ status.SinkFault → ⊥) × (status_of ending ≡ status.SourceFault → ⊥)
ends_well done = ((λ e. cc), (λ e. cc))
ends_well some_refused = ((λ e. cc), (λ e. cc))
ends_well syntax = ((λ e. cc), (λ e. cc))
ends_well range = ((λ e. cc), (λ e. cc))
ends_well past = ((λ e. cc), (λ e. cc))

pub is_full : (status.NoMemory ≡ status.SinkFault → ⊥) × (status.NoMemory ≡ status.SourceFault → ⊥)
is_full = ((λ e. cc), (λ e. cc))
