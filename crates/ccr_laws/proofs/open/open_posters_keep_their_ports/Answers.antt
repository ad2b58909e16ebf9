use Rattle.ccr_laws.proofs.OpenPosts.{keep_ports}
use Rattle.ccr_laws.proofs.open.open_posters_keep_their_ports.Goals as goal

pub returns : goal.returns
returns c = keep_ports
