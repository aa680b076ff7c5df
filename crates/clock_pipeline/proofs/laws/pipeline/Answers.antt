use Rattle.clock_pipeline.proofs.StepLemmas.{text-front, step-fits, steps-fit}
use Rattle.clock_pipeline.proofs.laws.pipeline.Goals as goal

pub returns-clause-step : goal.returns-clause-step
returns-clause-step c = λ p s step every is_window fits. step-fits p s every is_window fits step

pub returns-clause-steps : goal.returns-clause-steps
returns-clause-steps c = λ p steps every is_window. steps-fit p every is_window steps

pub returns-clause-text : goal.returns-clause-text
returns-clause-text c = text-front
