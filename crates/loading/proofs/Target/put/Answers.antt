-- The list that is named is the one put into.
use Rattle.loading.proofs.Target.put.Goals as goal

pub returns-in-P-clause-when_open : goal.returns-in-P-clause-when_open
returns-in-P-clause-when_open c b bs ss H = rw c.in-P.is (c.put_p.ensures.when_open b bs ss H)

pub returns-in-Q-clause-when_open : goal.returns-in-Q-clause-when_open
returns-in-Q-clause-when_open c b bs ss H = rw c.in-Q.is (c.put_q.ensures.when_open_2 b bs ss H)
