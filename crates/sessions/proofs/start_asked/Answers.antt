use native.Mathlib.Omega.{arith}
use Rattle.sessions.proofs.Starting.{no_start, chain_start, quorum_start}
use Rattle.sessions.proofs.start_asked.Goals as goal

pub returns-in-32 : goal.returns-in-32
returns-in-32 c = chain_start c.args.bytes.now (grind arith)

pub returns-in-33 : goal.returns-in-33
returns-in-33 c = quorum_start c.args.bytes.now (grind arith)

pub returns-in_default : goal.returns-in_default
returns-in_default c = no_start c.args.bytes.now (λ s. grind arith) (λ s. grind arith)

pub returns-in_default-2 : goal.returns-in_default-2
returns-in_default-2 c = no_start c.args.bytes.now (λ s. grind arith) (λ s. grind arith)

pub returns-in_default-3 : goal.returns-in_default-3
returns-in_default-3 c = no_start c.args.bytes.now (λ s. grind arith) (λ s. grind arith)

pub returns-in_default-4 : goal.returns-in_default-4
returns-in_default-4 c = no_start c.args.bytes.now (λ s. grind arith) (λ s. grind arith)

pub returns-in_default-5 : goal.returns-in_default-5
returns-in_default-5 c = no_start c.args.bytes.now (λ s. grind arith) (λ s. grind arith)

pub returns-in_default-6 : goal.returns-in_default-6
returns-in_default-6 c = no_start c.args.bytes.now (λ s. grind arith) (λ s. grind arith)

pub returns-in_default-7 : goal.returns-in_default-7
returns-in_default-7 c = no_start c.args.bytes.now (λ s. grind arith) (λ s. grind arith)
