-- The bounds of the texts and of a run. What they are for is said in docs/FORMATS.md.
use Rattle.std.specs.Prelude.{ℕ}

-- the bytes of a text that says a wiring or a service, at most
abbrev pub most_wiring_bytes : ℕ
most_wiring_bytes = 1048576

-- the bytes of any text, at most
abbrev pub most_bytes : ℕ
most_bytes = 33554432

-- the bytes of a name, at most
abbrev pub most_name_bytes : ℕ
most_name_bytes = 16

-- the workers of a run, at most
abbrev pub most_workers : ℕ
most_workers = 16

-- the posters of a wiring, at most
abbrev pub most_posters : ℕ
most_posters = 16

-- the posters and workers of a run, at most; who finishes a run has a number up to this one
abbrev pub most_actors : ℕ
most_actors = 32

-- the rounds in a row without a task behind which a worker rests
abbrev pub most_empty_rounds : ℕ
most_empty_rounds = 10000

-- the places of a wiring, at most
abbrev pub most_places : ℕ
most_places = 8192

-- the events of a history, at most
abbrev pub most_events : ℕ
most_events = 120000

-- of a wiring, at most: queues, ports, sets of ports, causes, handlers, arbiters, branches
abbrev pub most_queues : ℕ
most_queues = 16

abbrev pub most_ports : ℕ
most_ports = 256

abbrev pub most_sets : ℕ
most_sets = 64

-- the ports of a set, at most
abbrev pub most_set_ports : ℕ
most_set_ports = 8

abbrev pub most_causes : ℕ
most_causes = 32

abbrev pub most_handlers : ℕ
most_handlers = 256

-- the actions of a handler, at most
abbrev pub most_actions : ℕ
most_actions = 16

-- the sites of a branch, at most: one for each action of its handler
abbrev pub most_sites : ℕ
most_sites = 16

abbrev pub most_arbiters : ℕ
most_arbiters = 256

abbrev pub most_branches : ℕ
most_branches = 256

-- the domains that combine Interleaves, and the members of one, at most
abbrev pub most_domains : ℕ
most_domains = 128

abbrev pub most_members : ℕ
most_members = 8

-- the slots of a pattern, at most
abbrev pub most_slots : ℕ
most_slots = 8

-- the messages that a slot or a gather takes, at most
abbrev pub most_count : ℕ
most_count = 1000

-- the number of a policy that discards or throttles, at most
abbrev pub most_policy : ℕ
most_policy = 1000

-- in an expression, at most: the number of a message that the task took, and the index of a number in its value
abbrev pub most_arg : ℕ
most_arg = 65535

abbrev pub last_index : ℕ
last_index = 7

-- the numbers of a value, at most
abbrev pub most_value_numbers : ℕ
most_value_numbers = 8

-- the spots that name one port, at most
abbrev pub most_spots : ℕ
most_spots = 16

-- the posts of all scripts together, at most
abbrev pub most_script_posts : ℕ
most_script_posts = 10000

-- the posts that tasks may make in a run, at most
abbrev pub most_task_posts : ℕ
most_task_posts = 10000

-- the size of a made wiring, at most
abbrev pub most_size : ℕ
most_size = 10000

-- of a service, at most: the bytes of a name, operations, clients, and what the clients ask
abbrev pub most_service_name_bytes : ℕ
most_service_name_bytes = 12

abbrev pub most_ops : ℕ
most_ops = 32

abbrev pub most_clients : ℕ
most_clients = 16

abbrev pub most_asks : ℕ
most_asks = 10000
