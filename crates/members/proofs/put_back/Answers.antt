-- The terms are made monic in place, and put.
use Rattle.std.proofs.Common.{subst}
use Rattle.members.specs.Members.{HasBehind}
use Rattle.members.proofs.MadeLaws.{Made, made_by, made_behind, made_monic, made_sound, made_storable}
use Rattle.members.proofs.put_back.Goals.{After-monic}
use Rattle.members.proofs.put_back.Goals as goal

-- The first n terms of r were made monic.
made : (c : After-monic) → Made c.args.p c.args.n c.args.r.now c.monic.new.f
made c = made_by c.args.p c.args.n c.args.r.now c.monic.new.f c.requires.opened.1 c.get.ensures.below c.requires.n_in_bounds c.monic.auto.f c.monic.ensures.is c.monic.ensures.in_words

pub put_p-requires-clause-storable : goal.put_p-requires-clause-storable
put_p-requires-clause-storable c = made_storable (made (goal.at.put_p-requires-clause-storable c).After-monic)

pub returns-in-InP-clause-sound : goal.returns-in-InP-clause-sound
returns-in-InP-clause-sound c =
    let m = made (goal.at.returns-in-InP-clause-sound c).After-monic in
    (made_sound m, made_monic m, made_behind m)

pub put_q-requires-clause-when_open : goal.put_q-requires-clause-when_open
put_q-requires-clause-when_open c b bs ss H = subst (λ d. HasBehind d c.args.left b) c.in-InQ.is (c.requires.when_open b bs ss H)

pub put_q-requires-clause-storable : goal.put_q-requires-clause-storable
put_q-requires-clause-storable c = made_storable (made (goal.at.put_q-requires-clause-storable c).After-monic)

pub returns-in-InQ-clause-sound : goal.returns-in-InQ-clause-sound
returns-in-InQ-clause-sound c =
    let m = made (goal.at.returns-in-InQ-clause-sound c).After-monic in
    (made_sound m, made_monic m, made_behind m)

pub returns-in-InP-clause-when_open_2 : goal.returns-in-InP-clause-when_open_2
returns-in-InP-clause-when_open_2 c b bs ss H = rw c.in-InP.is (c.put_p.ensures.when_open b bs ss H)

pub returns-in-InQ-clause-when_open_2 : goal.returns-in-InQ-clause-when_open_2
returns-in-InQ-clause-when_open_2 c b bs ss H = rw c.in-InQ.is (c.put_q.ensures.when_open_2 b bs ss H)
