use Rattle.message.proofs.Headers.{headers}
use Rattle.message.proofs.read_header.Goals as goal

pub returns-then-rest-lt-COMMON_HEADER : goal.returns-then-rest-lt-COMMON_HEADER
returns-then-rest-lt-COMMON_HEADER c = search headers

pub returns-then-le_u64-ne-SIGNATURE : goal.returns-then-le_u64-ne-SIGNATURE
returns-then-le_u64-ne-SIGNATURE c = search headers

pub returns-then-number-gt-ALERT : goal.returns-then-number-gt-ALERT
returns-then-number-gt-ALERT c = search headers

pub returns-then-header : goal.returns-then-header
returns-then-header c = search headers

pub returns-then-length-header : goal.returns-then-length-header
returns-then-length-header c = search headers

pub returns-then-rest-length : goal.returns-then-rest-length
returns-then-rest-length c = search headers

pub returns : goal.returns
returns c = search headers
