use Rattle.responses.proofs.SaidLaws.{said_refused, said_systems}
use Rattle.responses.proofs.put_answer.Goals as goal

pub returns-in-Refused : goal.returns-in-Refused
returns-in-Refused c = said_refused c.args.answer.steps c.args.output.now c.in-Refused.is c.from.ensures c.put_line.ensures.is

pub returns-in-Systems : goal.returns-in-Systems
returns-in-Systems c =
    said_systems c.args.answer.steps c.args.output.now c.in-Systems.is c.written_records.ensures.value c.put_line-in-Systems.ensures.is c.put_records.ensures
